-- Lists of marks: the one pass over the later entries finds a set that is closed under "later, and not independent", and the
-- least such set that has the chosen entry. Assumes nothing.
use Rattle.std.specs.Prelude.{◌≡◌, refl, ◌⊎◌, Bool, true, false, List, [], ◌∷◌, ◌++◌, ℕ}
use Rattle.std.proofs.Common.{ap, ◌∙◌, inl, inr, arith}
use Rattle.theory.specs.Tests.{bool_cases, or-false}
use Rattle.theory.specs.TakingBack.{Mark, stays, gone, all, kept, whole, Covers, hit, follow, Follows, Closed}

module _ {E : Type 0} where
  pub all_append : (a b : List (Mark E)) → all (a ++ b) ≡ all a ++ all b
  all_append [] b = refl
  all_append (stays e ∷ a) b = ap (λ (l : List E). e ∷ l) (all_append a b)
  all_append (gone e ∷ a) b = ap (λ (l : List E). e ∷ l) (all_append a b)

  pub kept_append : (a b : List (Mark E)) → kept (a ++ b) ≡ kept a ++ kept b
  kept_append [] b = refl
  kept_append (stays e ∷ a) b = ap (λ (l : List E). e ∷ l) (kept_append a b)
  kept_append (gone e ∷ a) b = kept_append a b

  pub kept_whole : (h : List E) → kept (whole h) ≡ h
  kept_whole [] = refl
  kept_whole (e ∷ h) = ap (λ (l : List E). e ∷ l) (kept_whole h)

  pub all_whole : (h : List E) → all (whole h) ≡ h
  all_whole [] = refl
  all_whole (e ∷ h) = ap (λ (l : List E). e ∷ l) (all_whole h)

  pub whole_append : (u v : List E) → whole (u ++ v) ≡ whole u ++ whole v
  whole_append [] v = refl
  whole_append (e ∷ u) v = ap (λ (l : List (Mark E)). stays e ∷ l) (whole_append u v)

  module _ (dep : E → E → Bool) where
    pub all-follow : (S w : List E) → all (follow dep S w) ≡ w
    all-follow S [] = refl
    all-follow S (f ∷ w) = go (all-follow (f ∷ S) w) (all-follow S w) (bool_cases (hit dep S f))
      where
        go :
            all (follow dep (f ∷ S) w) ≡ w → all (follow dep S w) ≡ w → (hit dep S f ≡ true) ⊎ (hit dep S f ≡ false) →
            all (follow dep S (f ∷ w)) ≡ f ∷ w
        go i j (inl h) = rw h (ap (λ (l : List E). f ∷ l) i)
        go i j (inr h) = rw h (ap (λ (l : List E). f ∷ l) j)

    -- what depends on one of S is gone
    abbrev pub FollowAll : List E → List (Mark E) → Type 0
    FollowAll [] m = Unit {0}
    FollowAll (s ∷ S) m = Follows dep s m × FollowAll S m

    -- the pass finds a closed set
    over-gone : (S : List E) (f : E) (m : List (Mark E)) → FollowAll S m → FollowAll S (gone f ∷ m)
    over-gone [] f m h = tt
    over-gone (s ∷ S) f m h = (h.0, over-gone S f m h.1)

    off_gone : (S : List E) (f : E) (m : List (Mark E)) → FollowAll S (gone f ∷ m) → FollowAll S m
    off_gone [] f m h = tt
    off_gone (s ∷ S) f m h = (h.0, off_gone S f m h.1)

    over-stays : (S : List E) (f : E) (m : List (Mark E)) → hit dep S f ≡ false → FollowAll S m → FollowAll S (stays f ∷ m)
    over-stays [] f m n h = tt
    over-stays (s ∷ S) f m n h = let x = or-false (dep s f) (hit dep S f) n in ((x.0, h.0), over-stays S f m x.1 h.1)

    off_stays : (S : List E) (f : E) (m : List (Mark E)) → FollowAll S (stays f ∷ m) → FollowAll S m
    off_stays [] f m h = tt
    off_stays (s ∷ S) f m h = (h.0.1, off_stays S f m h.1)

    stays-free : (S : List E) (f : E) (m : List (Mark E)) → FollowAll S (stays f ∷ m) → hit dep S f ≡ false
    stays-free [] f m h = refl
    stays-free (s ∷ S) f m h = rw h.0.0 (stays-free S f m h.1)

    pub follow-closed : (S w : List E) → Closed dep (follow dep S w) × FollowAll S (follow dep S w)
    follow-closed S [] = (tt, nothing S)
      where
        nothing : (S : List E) → FollowAll S []
        nothing [] = tt
        nothing (s ∷ S) = (tt, nothing S)
    follow-closed S (f ∷ w) = go (follow-closed (f ∷ S) w) (follow-closed S w) (bool_cases (hit dep S f))
      where
        go :
            Closed dep (follow dep (f ∷ S) w) × FollowAll (f ∷ S) (follow dep (f ∷ S) w) → Closed dep (follow dep S w)
            × FollowAll S (follow dep S w) →
            (hit dep S f ≡ true) ⊎ (hit dep S f ≡ false) → Closed dep (follow dep S (f ∷ w)) × FollowAll S (follow dep S (f ∷ w))
        go i j (inl h) = rw h ((i.1.0, i.0), over-gone S f (follow dep (f ∷ S) w) i.1.1)
        go i j (inr h) = rw h (j.0, over-stays S f (follow dep S w) h j.1)

    -- and the least one: each closed set that has S has it
    pub follow-least : (S : List E) (m : List (Mark E)) → FollowAll S m → Closed dep m → Covers (follow dep S (all m)) m
    follow-least S [] f c = tt
    follow-least S (stays e ∷ m) f c = rw (stays-free S e m f) (refl, follow-least S m (off_stays S e m f) c)
    follow-least S (gone e ∷ m) f c =
        go (follow-least (e ∷ S) m (c.0, off_gone S e m f) c.1) (follow-least S m (off_gone S e m f) c.1) (bool_cases (hit dep S e))
      where
        go :
            Covers (follow dep (e ∷ S) (all m)) m → Covers (follow dep S (all m)) m → (hit dep S e ≡ true) ⊎ (hit dep S e ≡ false) →
            Covers (follow dep S (e ∷ all m)) (gone e ∷ m)
        go i j (inl h) = rw h (refl, i)
        go i j (inr h) = rw h (refl, j)

    pub closed_after : (a b : List (Mark E)) → Closed dep (a ++ b) → Closed dep b
    closed_after [] b c = c
    closed_after (stays e ∷ a) b c = closed_after a b c
    closed_after (gone e ∷ a) b c = closed_after a b c.1

    pub closed-whole : (u : List E) (m : List (Mark E)) → Closed dep m → Closed dep (whole u ++ m)
    closed-whole [] m c = c
    closed-whole (e ∷ u) m c = closed-whole u m c

    pub nothing-closed : (h : List E) → Closed dep (whole h)
    nothing-closed [] = tt
    nothing-closed (e ∷ h) = nothing-closed h

    pub covers_whole : (a b t : List (Mark E)) → Covers t b → Covers (whole (all a) ++ t) (a ++ b)
    covers_whole [] b t c = c
    covers_whole (stays e ∷ a) b t c = (refl, covers_whole a b t c)
    covers_whole (gone e ∷ a) b t c = (refl, covers_whole a b t c)

    -- one entry more is gone, and all that depends on it was gone
    follows-more : (v e : E) (a b : List (Mark E)) → Follows dep v (a ++ stays e ∷ b) → Follows dep v (a ++ gone e ∷ b)
    follows-more v e [] b h = h.1
    follows-more v e (stays x ∷ a) b h = (h.0, follows-more v e a b h.1)
    follows-more v e (gone x ∷ a) b h = follows-more v e a b h

    pub closed-more : (e : E) (a b : List (Mark E)) → Follows dep e b → Closed dep (a ++ stays e ∷ b) → Closed dep (a ++ gone e ∷ b)
    closed-more e [] b f c = (f, c)
    closed-more e (stays x ∷ a) b f c = closed-more e a b f c
    closed-more e (gone x ∷ a) b f c = (follows-more x e a b c.0, closed-more e a b f c.1)

  -- an entry of those that stay, among the marks
  pub record Found (m : List (Mark E)) (u : List E) (e : E) (w : List E) : Type 0 where
    pub before : List (Mark E)
    pub later : List (Mark E)
    pub was : m ≡ before ++ stays e ∷ later
    pub kept_before : kept before ≡ u
    pub kept_later : kept later ≡ w

  pub find : (m : List (Mark E)) (u : List E) (e : E) (w : List E) → kept m ≡ u ++ e ∷ w → Found m u e w
  find [] u e w h = absurd (none u h)
    where
      none : (u : List E) → [] ≡ u ++ e ∷ w → ⊥
      none [] h = let z : ◌≡◌ {A = ℕ} 0 1 = cc in omega arith
      none (x ∷ u) h = let z : ◌≡◌ {A = ℕ} 0 1 = cc in omega arith
  find (gone x ∷ m) u e w h =
      let i = find m u e w h in
      record {
        before = gone x ∷ i.before;
        later = i.later;
        was = ap (λ (l : List (Mark E)). gone x ∷ l) i.was;
        kept_before = i.kept_before;
        kept_later = i.kept_later;
      }
  find (stays x ∷ m) [] e w h =
      let a : x ≡ e = cc in
      let b : kept m ≡ w = cc in
      record { before = []; later = m; was = ap (λ z. stays z ∷ m) a; kept_before = refl; kept_later = b }
  find (stays x ∷ m) (y ∷ u) e w h =
      let a : x ≡ y = cc in
      let b : kept m ≡ u ++ e ∷ w = cc in
      let i = find m u e w b in
      record {
        before = stays x ∷ i.before;
        later = i.later;
        was = ap (λ (l : List (Mark E)). stays x ∷ l) i.was;
        kept_before = ap (λ (l : List E). x ∷ l) i.kept_before ∙ ap (λ z. z ∷ u) a;
        kept_later = i.kept_later;
      }

  pub covers_both : (t m : List (Mark E)) → Covers t m → Covers m t → t ≡ m
  covers_both [] [] a b = refl
  covers_both [] (x ∷ m) a b = absurd a
  covers_both (x ∷ t) [] a b = absurd a
  covers_both (stays e ∷ t) (stays f ∷ m) a b = ap (λ z. stays z ∷ t) a.0 ∙ ap (λ (l : List (Mark E)). stays f ∷ l) (covers_both t m a.1 b.1)
  covers_both (stays e ∷ t) (gone f ∷ m) a b = absurd b
  covers_both (gone e ∷ t) (gone f ∷ m) a b = ap (λ z. gone z ∷ t) a.0 ∙ ap (λ (l : List (Mark E)). gone f ∷ l) (covers_both t m a.1 b.1)
  covers_both (gone e ∷ t) (stays f ∷ m) a b = absurd a

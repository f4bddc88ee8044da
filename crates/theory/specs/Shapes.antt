-- The steps of a process, forward and back: a leaf acts, a call forks and merges; and each accepted step has one of three shapes.
-- Assumes nothing.
use Rattle.std.specs.Prelude.{◌≡◌, refl, ◌⊎◌, Bool, true, false, ℕ}
use Rattle.std.proofs.Common.{sym, inl, inr}
use Rattle.std.proofs.Math.Option.{Option, none, some}
use Rattle.theory.specs.Cause.{Feet}
use Rattle.theory.specs.Tests.{some_inj, none-some}
use Rattle.theory.specs.Local.{feet, State, Outcome, Action}
use Rattle.theory.specs.Program.{Program}
use Rattle.theory.specs.Optional.{each_kid, some_kid, is_none, onto}

module _ {Place Memory Value : Type 0} {look : Memory → ℕ → Value} {reading writing : ℕ → ℕ → Bool}
    (Π : Program Place Memory Value look reading writing) where
  abbrev pub Kids : Type 0
  Kids = ℕ → Option Place

  abbrev pub has_kids : Kids → Bool
  has_kids k = some_kid k 8

  abbrev pub at_end : Place → Bool
  at_end a = is_none (Π.entry_block a)

  abbrev pub at_begin : Place → Bool
  at_begin a = is_none (Π.exit_block a)

  abbrev pub empty : Kids
  empty i = none

  abbrev pub result : ℕ → Place → Kids → Memory → Outcome Place Memory
  result b a k m = record { block = b; row = some a; kids = k; memory = m }

  abbrev pub moved : ℕ → Kids → Option (Place × Memory) → Option (Outcome Place Memory)
  moved b k none = none
  moved b k (some x) = some (result b x.0 k x.1)

  -- forward: the block ahead; children at end merge; a call forks; any other block acts
  abbrev pub merge : Place → Memory → Bool → Option ℕ → Option (Outcome Place Memory)
  merge a m false c = none
  merge a m true none = none
  merge a m true (some c) = some (result c a empty m)

  abbrev pub act : Place → ℕ → Kids → Memory → Bool → Option (Outcome Place Memory)
  act a b k m true = some (result b (Π.out b) (λ i. onto Π.begin_place (Π.label b i)) m)
  act a b k m false = moved b k (Π.leaf b a m)

  abbrev pub ahead : Place → ℕ → Kids → Memory → Bool → Option (Outcome Place Memory)
  ahead a b k m true = merge a m (each_kid at_end k 8) (Π.exit_block a)
  ahead a b k m false = act a b k m (Π.is_call b)

  abbrev pub ahead-at : Place → Kids → Memory → Option ℕ → Option (Outcome Place Memory)
  ahead-at a k m none = none
  ahead-at a k m (some b) = ahead a b k m (has_kids k)

  abbrev pub forward : Action Place Memory
  forward none k m = none
  forward (some a) k m = ahead-at a k m (Π.entry_block a)

  -- back
  abbrev pub unfork : ℕ → Memory → Bool → Option (Outcome Place Memory)
  unfork b m false = none
  unfork b m true = some (result b (Π.into b) empty m)

  abbrev pub unact : Place → ℕ → Kids → Memory → Bool → Option (Outcome Place Memory)
  unact a b k m true = some (result b a (λ i. onto Π.end_place (Π.label b i)) m)
  unact a b k m false = moved b k (Π.unleaf b a m)

  abbrev pub behind : Place → ℕ → Kids → Memory → Bool → Option (Outcome Place Memory)
  behind a b k m true = unfork b m (each_kid at_begin k 8)
  behind a b k m false = unact a b k m (Π.is_call b)

  abbrev pub behind-at : Place → Kids → Memory → Option ℕ → Option (Outcome Place Memory)
  behind-at a k m none = none
  behind-at a k m (some b) = behind a b k m (has_kids k)

  abbrev pub back : Action Place Memory
  back none k m = none
  back (some a) k m = behind-at a k m (Π.exit_block a)

  abbrev pub C : Type 0
  C = State Place Memory

  abbrev pub footprints : Feet
  footprints = feet reading writing Π.written_read

  -- the shapes of a forward step
  pub record Leaf (ρ : Option Place) (k : Kids) (m : Memory) (o : Outcome Place Memory) : Type 0 where
    pub a : Place
    pub a' : Place
    pub b : ℕ
    pub m' : Memory
    pub row_is : ρ ≡ some a
    pub entry_is : Π.entry_block a ≡ some b
    pub childless : has_kids k ≡ false
    pub plain : Π.is_call b ≡ false
    pub acts : Π.leaf b a m ≡ some (a', m')
    pub o_is : o ≡ result b a' k m'

  pub record Fork (ρ : Option Place) (k : Kids) (m : Memory) (o : Outcome Place Memory) : Type 0 where
    pub a : Place
    pub b : ℕ
    pub row_is : ρ ≡ some a
    pub entry_is : Π.entry_block a ≡ some b
    pub childless : has_kids k ≡ false
    pub called : Π.is_call b ≡ true
    pub o_is : o ≡ result b (Π.out b) (λ i. onto Π.begin_place (Π.label b i)) m

  pub record Merge (ρ : Option Place) (k : Kids) (m : Memory) (o : Outcome Place Memory) : Type 0 where
    pub a : Place
    pub b : ℕ
    pub c : ℕ
    pub row_is : ρ ≡ some a
    pub entry_is : Π.entry_block a ≡ some b
    pub childed : has_kids k ≡ true
    pub ended : each_kid at_end k 8 ≡ true
    pub exit_is : Π.exit_block a ≡ some c
    pub o_is : o ≡ result c a empty m

  abbrev pub Forward : Option Place → Kids → Memory → Outcome Place Memory → Type 0
  Forward ρ k m o = Leaf ρ k m o ⊎ Fork ρ k m o ⊎ Merge ρ k m o

  pub forward-shape : (ρ : Option Place) (k : Kids) (m : Memory) (o : Outcome Place Memory) → forward ρ k m ≡ some o → Forward ρ k m o
  forward-shape none k m o h = absurd (none-some h)
  forward-shape (some a) k m o h = at_entry (Π.entry_block a) refl h
    where
      leafed :
          (b : ℕ) → Π.entry_block a ≡ some b → has_kids k ≡ false → Π.is_call b ≡ false → (x : Option (Place × Memory)) → Π.leaf b a m ≡ x →
          moved b k x ≡ some o → Forward (some a) k m o
      leafed b e f c none x g = absurd (none-some g)
      leafed b e f c (some y) x g =
          inl (record {
            a = a;
            a' = y.0;
            b = b;
            m' = y.1;
            row_is = refl;
            entry_is = e;
            childless = f;
            plain = c;
            acts = x;
            o_is = sym
                (some_inj (result b y.0 k y.1) o g);
          })

      acted : (b : ℕ) → Π.entry_block a ≡ some b → has_kids k ≡ false → (x : Bool) → Π.is_call b ≡ x → act a b k m x ≡ some o → Forward (some a) k m o
      acted b e f true x g =
          inr (inl (record {
            a = a;
            b = b;
            row_is = refl;
            entry_is = e;
            childless = f;
            called = x;
            o_is = sym
                (some_inj (result b (Π.out b) (λ i. onto Π.begin_place (Π.label b i)) m) o g);
          }))
      acted b e f false x g = leafed b e f x (Π.leaf b a m) refl g

      merged :
          (b : ℕ) → Π.entry_block a ≡ some b → has_kids k ≡ true → (x : Bool) → each_kid at_end k 8 ≡ x → (y : Option ℕ) → Π.exit_block a ≡ y →
          merge a m x y ≡ some o → Forward (some a) k m o
      merged b e f false x y z g = absurd (none-some g)
      merged b e f true x none z g = absurd (none-some g)
      merged b e f true x (some c) z g =
          inr (inr (record {
            a = a;
            b = b;
            c = c;
            row_is = refl;
            entry_is = e;
            childed = f;
            ended = x;
            exit_is = z;
            o_is = sym
                (some_inj (result c a empty m) o g);
          }))

      kidded : (b : ℕ) → Π.entry_block a ≡ some b → (x : Bool) → has_kids k ≡ x → ahead a b k m x ≡ some o → Forward (some a) k m o
      kidded b e true x g = merged b e x (each_kid at_end k 8) refl (Π.exit_block a) refl g
      kidded b e false x g = acted b e x (Π.is_call b) refl g

      at_entry : (x : Option ℕ) → Π.entry_block a ≡ x → ahead-at a k m x ≡ some o → Forward (some a) k m o
      at_entry none e g = absurd (none-some g)
      at_entry (some b) e g = kidded b e (has_kids k) refl g

  -- the shapes of a step back
  pub record Unleaf (ρ : Option Place) (k : Kids) (m : Memory) (o : Outcome Place Memory) : Type 0 where
    pub a : Place
    pub a' : Place
    pub b : ℕ
    pub m' : Memory
    pub row_is : ρ ≡ some a
    pub exit_is : Π.exit_block a ≡ some b
    pub childless : has_kids k ≡ false
    pub plain : Π.is_call b ≡ false
    pub acts : Π.unleaf b a m ≡ some (a', m')
    pub o_is : o ≡ result b a' k m'

  pub record Unmerge (ρ : Option Place) (k : Kids) (m : Memory) (o : Outcome Place Memory) : Type 0 where
    pub a : Place
    pub b : ℕ
    pub row_is : ρ ≡ some a
    pub exit_is : Π.exit_block a ≡ some b
    pub childless : has_kids k ≡ false
    pub called : Π.is_call b ≡ true
    pub o_is : o ≡ result b a (λ i. onto Π.end_place (Π.label b i)) m

  pub record Unfork (ρ : Option Place) (k : Kids) (m : Memory) (o : Outcome Place Memory) : Type 0 where
    pub a : Place
    pub b : ℕ
    pub row_is : ρ ≡ some a
    pub exit_is : Π.exit_block a ≡ some b
    pub childed : has_kids k ≡ true
    pub begun : each_kid at_begin k 8 ≡ true
    pub o_is : o ≡ result b (Π.into b) empty m

  abbrev pub Backward : Option Place → Kids → Memory → Outcome Place Memory → Type 0
  Backward ρ k m o = Unleaf ρ k m o ⊎ Unmerge ρ k m o ⊎ Unfork ρ k m o

  pub back-shape : (ρ : Option Place) (k : Kids) (m : Memory) (o : Outcome Place Memory) → back ρ k m ≡ some o → Backward ρ k m o
  back-shape none k m o h = absurd (none-some h)
  back-shape (some a) k m o h = at_exit (Π.exit_block a) refl h
    where
      leafed :
          (b : ℕ) → Π.exit_block a ≡ some b → has_kids k ≡ false → Π.is_call b ≡ false → (x : Option (Place × Memory)) → Π.unleaf b a m ≡ x →
          moved b k x ≡ some o → Backward (some a) k m o
      leafed b e f c none x g = absurd (none-some g)
      leafed b e f c (some y) x g =
          inl (record {
            a = a;
            a' = y.0;
            b = b;
            m' = y.1;
            row_is = refl;
            exit_is = e;
            childless = f;
            plain = c;
            acts = x;
            o_is = sym
                (some_inj (result b y.0 k y.1) o g);
          })

      acted :
          (b : ℕ) → Π.exit_block a ≡ some b → has_kids k ≡ false → (x : Bool) → Π.is_call b ≡ x → unact a b k m x ≡ some o → Backward (some a) k m o
      acted b e f true x g =
          inr (inl (record {
            a = a;
            b = b;
            row_is = refl;
            exit_is = e;
            childless = f;
            called = x;
            o_is = sym
                (some_inj (result b a (λ i. onto Π.end_place (Π.label b i)) m) o g);
          }))
      acted b e f false x g = leafed b e f x (Π.unleaf b a m) refl g

      forked :
          (b : ℕ) → Π.exit_block a ≡ some b → has_kids k ≡ true → (x : Bool) → each_kid at_begin k 8 ≡ x → unfork b m x ≡ some o →
          Backward (some a) k m o
      forked b e f false x g = absurd (none-some g)
      forked b e f true x g =
          inr (inr (record {
            a = a;
            b = b;
            row_is = refl;
            exit_is = e;
            childed = f;
            begun = x;
            o_is = sym
                (some_inj (result b (Π.into b) empty m) o g);
          }))

      kidded : (b : ℕ) → Π.exit_block a ≡ some b → (x : Bool) → has_kids k ≡ x → behind a b k m x ≡ some o → Backward (some a) k m o
      kidded b e true x g = forked b e x (each_kid at_begin k 8) refl g
      kidded b e false x g = acted b e x (Π.is_call b) refl g

      at_exit : (x : Option ℕ) → Π.exit_block a ≡ x → behind-at a k m x ≡ some o → Backward (some a) k m o
      at_exit none e g = absurd (none-some g)
      at_exit (some b) e g = kidded b e (has_kids k) refl g

  -- and the other way: a shape is a step
  pub leaf-forward :
      (a a' : Place) (b : ℕ) (k : Kids) (m m' : Memory) → Π.entry_block a ≡ some b → has_kids k ≡ false → Π.is_call b ≡ false →
      Π.leaf b a m ≡ some (a', m') → forward (some a) k m ≡ some (result b a' k m')
  leaf-forward a a' b k m m' e f c l = rw (e, f, c, l)

  pub fork-forward :
      (a : Place) (b : ℕ) (k : Kids) (m : Memory) → Π.entry_block a ≡ some b → has_kids k ≡ false → Π.is_call b ≡ true →
      forward (some a) k m ≡ some (result b (Π.out b) (λ i. onto Π.begin_place (Π.label b i)) m)
  fork-forward a b k m e f c = rw (e, f, c)

  pub merge-forward :
      (a : Place) (b c : ℕ) (k : Kids) (m : Memory) → Π.entry_block a ≡ some b → has_kids k ≡ true → each_kid at_end k 8 ≡ true →
      Π.exit_block a ≡ some c → forward (some a) k m ≡ some (result c a empty m)
  merge-forward a b c k m e f g x = rw (e, f, g, x)

  pub unleaf-back :
      (a a' : Place) (b : ℕ) (k : Kids) (m m' : Memory) → Π.exit_block a ≡ some b → has_kids k ≡ false → Π.is_call b ≡ false →
      Π.unleaf b a m ≡ some (a', m') → back (some a) k m ≡ some (result b a' k m')
  unleaf-back a a' b k m m' e f c l = rw (e, f, c, l)

  pub unmerge_back :
      (a : Place) (b : ℕ) (k : Kids) (m : Memory) → Π.exit_block a ≡ some b → has_kids k ≡ false → Π.is_call b ≡ true →
      back (some a) k m ≡ some (result b a (λ i. onto Π.end_place (Π.label b i)) m)
  unmerge_back a b k m e f c = rw (e, f, c)

  pub unfork-back :
      (a : Place) (b : ℕ) (k : Kids) (m : Memory) → Π.exit_block a ≡ some b → has_kids k ≡ true → each_kid at_begin k 8 ≡ true →
      back (some a) k m ≡ some (result b (Π.into b) empty m)
  unfork-back a b k m e f g = rw (e, f, g)

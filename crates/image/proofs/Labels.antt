-- The labels of a call, copied to the front of eight zeros, are those that rules' names_at lists. Assumes nothing.
use Rattle.std.proofs.Common.{◌≡◌, ℕ, zero, suc, ◌+◌, ◌-◌, ◌<◌, ◌≤◌, Bool, true, false, ltb, refl, sym, ap, ◌∙◌, arith}
use Rattle.std.proofs.Common.{List, ◌++◌, map, length, get_or, drop, replicate, length-append, length-drop}
use Rattle.std.proofs.lemmas.Grind.{same_number_lists}
use Rattle.std.proofs.lemmas.List.{get_or_append_left, get_or-append_right, get_or-drop, get_or-replicate}
use borrow.Author.Tests.{ltb-true, ltb-false, lt-leb}
use Rattle.rules.specs.Base.{pick, up_from}
use Rattle.rules.specs.Read.{got, name_at, names_at, call_at, whole}
use Rattle.rules.specs.declared.Entry.{Entry}
use Rattle.rules.specs.declared.Instruction.{Instruction}

-- f of each number from a on
mapped-at : (f : ℕ → ℕ) (a n i : ℕ) → i < n → get_or (map f (up_from a n)) i 0 ≡ f (a + i)
unfolding up_from
mapped-at f a zero i h = absurd (omega arith)
mapped-at f a (suc n) zero h = ap f (omega arith)
mapped-at f a (suc n) (suc i) h = mapped-at f (suc a) n i (omega arith) ∙ ap f (omega arith)

module _
    (s body : List ℕ) (at n : ℕ) (l : length body ≡ n) (few : n ≤ 8)
    (same : (i : ℕ) → i < n → get_or body i 0 ≡ get_or s (at + 1 + i) 0)
  where
    abbrev eight : List ℕ
    eight = body ++ drop n (replicate 8 0)

    eight-long : length eight ≡ 8
    eight-long = simp (length-append, length-drop) (omega arith)

    past : (i : ℕ) → n ≤ i → i < 8 → get_or eight i 0 ≡ 0
    past i k h =
        get_or-append_right body (drop n (replicate 8 0)) n i 0 l k
        ∙ get_or-drop n (replicate 8 0) (i - n) 0
        ∙ get_or-replicate 8 (n + (i - n)) 0 0 (omega arith)

    copied-at : (i : ℕ) → i < 8 → get_or eight i 0 ≡ name_at s at n i
    unfolding name_at pick
    copied-at i h = go (ltb i n) refl
      where
        go : (b : Bool) → ltb i n ≡ b → get_or eight i 0 ≡ pick b (get_or s (at + 1 + i) 0) 0
        go true e =
            let k : i < n = ltb-true i n e in
            get_or_append_left body (drop n (replicate 8 0)) 0 i (omega arith) ∙ same i k
        go false e = past i (ltb-false i n e) h

    pub copied : eight ≡ map (name_at s at n) (up_from 0 8)
    unfolding up_from
    copied =
        same_number_lists eight (map (name_at s at n) (up_from 0 8)) eight-long
        (λ i h. let k : i < 8 = omega (arith, eight-long) in
        copied-at i k ∙ sym (mapped-at (name_at s at n) 0 8 i k ∙ ap (name_at s at n) (omega arith)))

-- so a call whose body was copied is the call that rules read
pub called : (s body copy : List ℕ) (at n count l : ℕ)
    → count ≡ n
    → n ≤ 8
    → copy ≡ body
    → (at + count < length s) × (length body ≡ count) × ((i : ℕ) → i < count → get_or body i 0 ≡ get_or s (at + 1 + i) 0)
    → got (Instruction.Call (record { count = n; labels = copy ++ drop count (replicate 8 0) })) (at + 1 + count) ≡ call_at s at (Entry.From l) n
unfolding call_at whole pick names_at
called s body copy at n count l e few c h =
    rw (e, c, lt-leb (length s - at) n (omega (arith, h.0)))
    (ap (λ (x : List ℕ). got (Instruction.Call (record { count = n; labels = x })) (at + 1 + n))
    (copied s body at n (h.1 ∙ e) few (rw e at h.2)))

-- Words that hold a machine of the right sizes, and the edits of words as changes of the machine that they hold. Assumes nothing.
use mathlib.Core.Path.{◌≡◌, refl, sym, ap, ap₂, ◌∙◌}
use mathlib.Core.List.{List, [], ◌∷◌, ◌++◌, append_assoc}
use Prim.Native.Nat.{ℕ, zero, suc, ◌+◌, ◌≤◌, ◌<◌}
use native.Mathlib.Omega.{arith}
use lib.ListN.{length, take, drop, get_or, set, length-append, length-drop, length-set}
use lib.Seq.{set-append_left, length-take-le}
use Rattle.rules.specs.Machine.{Process, Machine, pack_rows, pack_history, padded, pack, view}
use Rattle.evaluate.specs.Shown.{written, WritesFit}
use Rattle.evaluate.specs.declared.Writes.{Writes}
use Rattle.laws.proofs.Pack.{Sized, clean, view-sized, pack-view, length-pack}
use Rattle.change.specs.Words.{written_words, kept_entry, closed_entry, moved_row, inserted_rows, removed_rows}
use Rattle.machine.specs.Index.{kept, without, row_at, moved, inserted, removed}
use Rattle.change.proofs.Places.{kept-pack, closed-pack, moved-pack}
use Rattle.change.proofs.Family.{inserted-pack, removed-pack}
use Rattle.rules.specs.Format.{named}
use Rattle.rules.specs.Step.{child_rows}
use Rattle.rules.specs.declared.Names.{Names}
use Rattle.step.specs.Planned.{Lent, writes_made, written_in, identifier_at}
use Rattle.step.specs.Ready.{process_at}
use Rattle.step.proofs.Standing.{live-identifier}
use Rattle.step.proofs.Named.{length-children, named_count}

pub record Holds (w : List ℕ) (m : Machine) : Type 0 where
  pub words : w ≡ pack m
  pub sized : Sized m

pub holds-view : (w : List ℕ) → Lent w → Holds w (view w)
holds-view w l =
    let c = clean w l.long l.counts l.unused in
    record { words = sym (pack-view w c); sized = view-sized w c }

pub length-row_at : (rs : List Process) (i l t : ℕ) → length (row_at rs i l t) ≡ length rs
unfolding row_at
length-row_at [] i l t = refl
length-row_at (r ∷ rs) zero l t = refl
length-row_at (r ∷ rs) (suc i) l t = ap suc (length-row_at rs i l t)

module _ {w : List ℕ} {m : Machine} (h : Holds w m) where
  pub long : length w ≡ 8674
  long = ap length h.words ∙ length-pack m h.sized

  pub live-count : get_or w 0 0 ≡ length m.rows
  unfolding pack
  live-count = ap (λ (l : List ℕ). get_or l 0 0) h.words

  pub kept-count : get_or w 1 0 ≡ length m.history
  unfolding pack
  kept-count = ap (λ (l : List ℕ). get_or l 1 0) h.words

  pub holds-moved : {w' : List ℕ} (i l s : ℕ) → w' ≡ moved_row w i l s → i < length m.rows → Holds w' (moved m i l s)
  unfolding moved
  holds-moved i l s e k =
      record {
        words = e ∙ ap (λ (v : List ℕ). moved_row v i l s) h.words ∙ moved-pack m h.sized i l s k;
        sized = record {
          memory288 = h.sized.memory288;
          rows64 = omega (arith, h.sized.rows64, length-row_at m.rows i l s);
          history4096 = h.sized.history4096;
        };
      }

  -- the process is told by its row
  pub holds_kept : {w' : List ℕ} {told : ℕ} (p b : ℕ) → w' ≡ kept_entry w told b → told ≡ p → length m.history < 4096 → Holds w' (kept m p b)
  unfolding kept
  holds_kept p b e t k =
      record {
        words = e ∙ ap₂ (λ (v : List ℕ) (q : ℕ). kept_entry v q b) h.words t ∙ kept-pack m h.sized p b k;
        sized = record {
          memory288 = h.sized.memory288;
          rows64 = h.sized.rows64;
          history4096 = omega (arith, length-append m.history (record { identifier = p; block = b } ∷ []));
        };
      }

  pub holds-closed : {w' : List ℕ} (i : ℕ) → w' ≡ closed_entry w i → i < length m.history → Holds w' (without m i)
  unfolding without
  holds-closed i e k =
      record {
        words = e ∙ ap (λ (v : List ℕ). closed_entry v i) h.words ∙ closed-pack m h.sized i k;
        sized = record {
          memory288 = h.sized.memory288;
          rows64 = h.sized.rows64;
          history4096 =
              omega (
                arith,
                h.sized.history4096,
                length-append (take i m.history) (drop (suc i) m.history),
                length-drop (suc i) m.history,
                length-take-le i m.history (omega arith),
              );
        };
      }

  pub holds-removed : {w' : List ℕ} (i n : ℕ) → w' ≡ removed_rows w i n → i + n ≤ length m.rows → Holds w' (removed m i n)
  unfolding removed
  holds-removed i n e k =
      let t : length (take i m.rows) ≡ i = length-take-le i m.rows (omega arith) in
      record {
        words = e ∙ ap (λ (v : List ℕ). removed_rows v i n) h.words ∙ removed-pack m h.sized i n k;
        sized = record {
          memory288 = h.sized.memory288;
          rows64 = omega (arith, h.sized.rows64, length-append (take i m.rows) (drop (i + n) m.rows), length-drop (i + n) m.rows, t);
          history4096 = h.sized.history4096;
        };
      }

  pub holds-inserted :
      {w' : List ℕ} (i n : ℕ) (new : List Process) → w' ≡ inserted_rows w i n (pack_rows new) → n ≡ length new → i ≤ length m.rows
      → length m.rows + n ≤ 64 → Holds w' (inserted m i new)
  unfolding inserted
  holds-inserted i n new e l k r =
      let t : length (take i m.rows) ≡ i = length-take-le i m.rows k in
      record {
        words =
            e
            ∙ ap (λ (v : List ℕ). inserted_rows v i n (pack_rows new)) h.words
            ∙ ap (λ (j : ℕ). inserted_rows (pack m) i j (pack_rows new)) l
            ∙ inserted-pack m h.sized i new k (omega arith);
        sized = record {
          memory288 = h.sized.memory288;
          rows64 =
              omega (
                arith,
                length-append (take i m.rows ++ new) (drop i m.rows),
                length-append (take i m.rows) new,
                length-drop i m.rows,
                t,
              );
          history4096 = h.sized.history4096;
        };
      }

  pub holds-children :
      {w' : List ℕ} {told : ℕ} (i p stage : ℕ) (names : Names) → w' ≡ inserted_rows w i names.count (pack_rows (child_rows told stage 1 (named names)))
      → told ≡ p → names.count ≤ 8 → length names.labels ≡ 8 → i ≤ length m.rows → length m.rows + names.count ≤ 64
      → Holds w' (inserted m i (child_rows p stage 1 (named names)))
  holds-children i p stage names e t few eight k r =
      holds-inserted i names.count (child_rows p stage 1 (named names))
      (e ∙ ap (λ (q : ℕ). inserted_rows w i names.count (pack_rows (child_rows q stage 1 (named names)))) t)
      (sym (length-children p stage 1 (named names) ∙ named_count names few eight)) k r

-- the words of a machine whose row is moved
module _ (m : Machine) (i l s : ℕ) where
  pub moved-many : length (moved m i l s).rows ≡ length m.rows
  unfolding moved
  moved-many = length-row_at m.rows i l s

-- words that a plan is for, and the process of a row
module _ {w : List ℕ} (lent : Lent w) (row : ℕ) (live : row < length (view w).rows) where
  pub row_fits : (length w ≡ 8674) × (row < 64)
  row_fits = (lent.long, omega (arith, live, (holds-view w lent).sized.rows64))

  pub row-told : {told : ℕ} → told ≡ process_at w row → told ≡ identifier_at (view w) row
  row-told e = e ∙ live-identifier w row live

-- one write
abbrev with_memory : Machine → List ℕ → Machine
with_memory m memory = record { memory = memory; rows = m.rows; history = m.history }

two_in : (n : ℕ) → 2 + n ≡ suc (suc n)
two_in n = omega arith

written-pack : (m : Machine) (at v : ℕ) → at < length m.memory → written_words (pack m) at v ≡ pack (with_memory m (set m.memory at v))
unfolding written_words pack
written-pack m at v h =
    let R : List ℕ = padded 192 (pack_rows m.rows) in
    let H : List ℕ = padded 8192 (pack_history m.history) in
    ap (λ (k : ℕ). set (pack m) k v) (two_in at)
    ∙ ap (λ (l : List ℕ). length m.rows ∷ length m.history ∷ l)
    (ap (λ (l : List ℕ). set l at v) (append_assoc m.memory R H)
    ∙ set-append_left m.memory (R ++ H) at v h
    ∙ sym (append_assoc (set m.memory at v) R H))

pub length-written : (w : List ℕ) (at v : ℕ) → length (written_words w at v) ≡ length w
unfolding written_words
length-written w at v = length-set w (2 + at) v

one_written : {w : List ℕ} {m : Machine} → Holds w m → (at v : ℕ) → at < 288 → Holds (written_words w at v) (with_memory m (set m.memory at v))
one_written {w} {m} h at v k =
    record {
      words = ap (λ (l : List ℕ). written_words l at v) h.words ∙ written-pack m at v (omega (arith, h.sized.memory288));
      sized = record {
        memory288 = length-set m.memory at v ∙ h.sized.memory288;
        rows64 = h.sized.rows64;
        history4096 = h.sized.history4096;
      };
    }

all-written : {w : List ℕ} {m : Machine} → Holds w m → (writes : Writes) → WritesFit writes → Holds (writes_made writes w) (written_in m writes)
unfolding writes_made written_in written
all-written h Writes.Nothing f = h
all-written h (Writes.One at v) f = one_written h at v f
all-written h (Writes.Two at v to u) f = one_written (one_written h at v f.0) to u f.1

pub holds-written :
    {w w' : List ℕ} {m : Machine} → Holds w m → (writes : Writes) → w' ≡ writes_made writes w → WritesFit writes → Holds w' (written_in m writes)
holds-written h writes e f =
    let g = all-written h writes f in
    record { words = e ∙ g.words; sized = g.sized }

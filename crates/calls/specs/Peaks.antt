-- The peak of a label as the code goes down to it: by at most nine levels, over a memo. For `main_peak` and its callees.
use Rattle.std.specs.Prelude.{◌≡◌, List, [], ℕ, zero, suc, ltb, length, get_or, cond, Option, Some, None}
use Rattle.rules.specs.Format.{main}
use Rattle.rules.specs.Calls.{Calling, sum_of, largest, peak, bad15, deepest, most_rows}

-- one row more than there may be
abbrev pub over : ℕ
over = suc most_rows

-- one level more than main may be deep
abbrev pub levels_tried : ℕ
levels_tried = suc deepest

-- the peak of label l with so many levels left; where none is left it is over
unfoldable pub peak_within : Calling → ℕ → ℕ → ℕ
peak_within t zero l = over
peak_within t (suc levels) l = suc (largest t (sum_of (peak_within t levels)) l (length t.calls))

-- a peak as the code has it: nothing where it is over
abbrev pub unless_over : ℕ → Option ℕ
unless_over x = cond (ltb most_rows x) None (Some x)

-- what a memo holds of each label, with each number of levels left: nothing, or its peak
pub record Memo (t : Calling) (memo : List (List (Option ℕ))) : Type 0 where
  pub right : (levels l v : ℕ) → get_or (get_or memo levels []) l None ≡ Some v → Some v ≡ unless_over (peak_within t (suc levels) l)

-- main's peak, or nothing where code 15 is given
abbrev pub peak_unless_refused : Calling → Option ℕ
peak_unless_refused t = cond (bad15 t) None (Some (peak t main))

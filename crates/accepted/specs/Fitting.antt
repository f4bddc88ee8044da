-- Words that fit a program, with the tables of its places; else the code that refuses them.
use Rattle.std.specs.Prelude.{ℕ, ◌≡◌, true, false, List, length, eqb, cond, Result, Ok, Err}
use Rattle.rules.specs.Fits.{fits}
use Rattle.rules.specs.declared.Block.{Block}
use Rattle.rules.specs.declared.Code.{Code}
use Rattle.places.specs.Places.{PlacesOf}
use Rattle.places.specs.declared.Places.{Places}

-- 16 for another number of words than a machine's, 17 for as many that do not fit
abbrev pub unfit_code : List ℕ → Code
unfit_code w = cond (eqb (length w) 8674) Code.Unfit Code.SliceLength

abbrev pub Fitting : List Block → List ℕ → Result Places Code → Type 0
Fitting program w (Ok places) = (length w ≡ 8674) × (fits program w ≡ true) × PlacesOf program places
Fitting program w (Err code) = (code ≡ unfit_code w) × (length w ≡ 8674 → fits program w ≡ false)

-- What a short list of labels holds.
use Rattle.std.specs.Prelude.{ℕ, List, take}
use Rattle.short.specs.declared.few.Few.{Few}

abbrev pub few : Few → List ℕ
few f = take f.count f.labels

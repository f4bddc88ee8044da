-- A word moved so that the order of words is that of the signed numbers. The theorem `signed-values` cites it beside the signed orders.
use Rattle.std.specs.Prelude.{ℕ, ◌+◌, ◌-◌, ◌%◌, ◌^◌}
use Rattle.rules.specs.Value.{width, span}

-- the word with 2 ^ 31 added, wrapped
abbrev pub biased_of : ℕ → ℕ
biased_of a = (a + 2 ^ (width - 1)) % span

-- What is left of the digits decides.
use Rattle.std.proofs.Common.{◌≡◌, ◌-◌}
use Rattle.rules.specs.Fits.{digits_fit}
use Rattle.kept.proofs.digits_fit.Given as goal

abbrev pub invariant-loop : goal.invariant-loop
invariant-loop l = digits_fit 8 l.identifier ≡ digits_fit (8 - l.counter) l.rest.number

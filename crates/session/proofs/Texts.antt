-- Text put into a line: one text after another, and a text that has more room. Assumes nothing.
use mathlib.Core.Path.{◌≡◌, ap, ◌∙◌}
use mathlib.Core.List.{List, [], ◌++◌, append_assoc}
use Prim.Native.Nat.{ℕ, ◌+◌, ◌≤◌}
use native.Mathlib.Omega.{arith}
use Rattle.session.specs.Put.{written, Put}
use Rattle.session.specs.declared.line.Line.{Line}

-- one text after another
pub then :
    {line middle after : Line} {text text' : List ℕ} {most most' : ℕ} → Put line most text middle → Put middle most' text' after →
    Put line (most + most') (text ++ text') after
then {line} {middle} {after} {text} {text'} {most} {most'} p q =
    record {
      text_is = q.text_is ∙ ap (λ (t : List ℕ). t ++ text') p.text_is ∙ append_assoc (written line) text text';
      least = omega (arith, p.least, q.least);
      few = omega (arith, p.few, q.few);
    }

-- the same text, with more room
pub roomy :
    {line after : Line} {text text' : List ℕ} {most most' : ℕ} → text ≡ text' → most ≤ most' → Put line most text after →
    Put line most' text' after
roomy {line} {after} {text} {text'} {most} {most'} e h p =
    record {
      text_is = p.text_is ∙ ap (λ (t : List ℕ). written line ++ t) e;
      least = p.least;
      few = omega (arith, p.few);
    }

-- a text that stands alone
pub alone : {line after : Line} {text : List ℕ} {most : ℕ} → written line ≡ [] → Put line most text after → written after ≡ text
alone {line} {after} {text} e p = p.text_is ∙ ap (λ (t : List ℕ). t ++ text) e

-- What a line holds, and text put after it: the line is then no longer than it may be.
use Rattle.std.specs.Prelude.{◌≡◌, List, ◌++◌, ℕ, ◌+◌, ◌≤◌, take}
use Rattle.session.specs.declared.line.Line.{Line}

abbrev pub written : Line → List ℕ
written l = take l.end l.text

pub record Put (before : Line) (most : ℕ) (text : List ℕ) (after : Line) : Type 0 where
  pub text_is : written after ≡ written before ++ text
  pub least : before.end ≤ after.end
  pub few : after.end ≤ before.end + most

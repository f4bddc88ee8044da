-- The session program, document 01: what `walk` writes, as bytes, from its two files and the commands on its standard input.
use Rattle.std.specs.Prelude.{ℕ, zero, suc, ◌+◌, ◌*◌, ◌/◌, ◌%◌, ◌||◌, List, [], ◌∷◌, ◌++◌, eqb, ltb}
use Rattle.rules.specs.Base.{pick, zeros}
use Rattle.rules.specs.Format.{word_from}
use Rattle.rules.specs.Machine.{machine_words, live_count, history_count}
use Rattle.rules.specs.Words.{start_bytes, step, words_of}

-- ---- numbers in text
-- a hexadecimal digit, in lower case; a decimal number; eight hexadecimal digits
abbrev pub digit : ℕ → ℕ
digit d = pick (ltb d 10) (0x30 + d) (0x57 + d)

unfoldable pub digits : ℕ → ℕ → ℕ → List ℕ
digits radix zero n = []
digits radix (suc most) n = digits radix most (n / radix) ++ digit (n % radix) ∷ []

-- without leading zeros: of at most ten digits, as 32 bits need
unfoldable pub decimal_of : ℕ → ℕ → List ℕ
decimal_of zero n = []
decimal_of (suc most) n = pick (ltb n 10) (digit n ∷ []) (decimal_of most (n / 10) ++ digit (n % 10) ∷ [])

abbrev pub decimal : ℕ → List ℕ
decimal n = decimal_of 10 n

abbrev pub hexadecimal : ℕ → List ℕ
hexadecimal n = digits 16 8 n

-- ---- lines: one space between fields, one line feed at the end
abbrev pub space : ℕ
space = 0x20

abbrev pub line_feed : ℕ
line_feed = 0x0A

-- a refused start prints `X code place` and stops
unfoldable pub refused_line : ℕ → ℕ → List ℕ
refused_line code place = 0x58 ∷ space ∷ decimal code ++ space ∷ decimal place ++ line_feed ∷ []

-- an unknown kind or a cut body prints `K` and stops
abbrev pub unknown_line : List ℕ
unknown_line = 0x4B ∷ line_feed ∷ []

-- F or B, identifier, code, live count, history count after it
unfoldable pub step_line : ℕ → ℕ → ℕ → List ℕ → List ℕ
step_line direction p code words =
    pick (eqb direction 0) 0x46 0x42
    ∷ space
    ∷ hexadecimal p
    ++ space
    ∷ decimal code
    ++ space
    ∷ decimal (live_count words)
    ++ space
    ∷ decimal (history_count words)
    ++ line_feed
    ∷ []

-- ---- commands: kind 01 forward or 02 undo, body 4 bytes of identifier, low first
unfoldable pub commands : List ℕ → List ℕ → List ℕ → List ℕ
commands image words [] = []
commands image words (kind ∷ []) = unknown_line
commands image words (kind ∷ a ∷ []) = unknown_line
commands image words (kind ∷ a ∷ b ∷ []) = unknown_line
commands image words (kind ∷ a ∷ b ∷ c ∷ []) = unknown_line
commands image words (kind ∷ a ∷ b ∷ c ∷ d ∷ rest) =
    pick (eqb kind 1 || eqb kind 2)
    (let p = word_from a b c d in
    let o = step image words p (pick (eqb kind 1) 0 1) in
    step_line (pick (eqb kind 1) 0 1) p o.answer.code o.leaves ++ commands image o.leaves rest)
    unknown_line

unfoldable pub session : List ℕ → List ℕ → List ℕ → List ℕ
session image memory input =
    let o = start_bytes image memory (zeros (4 * machine_words)) in
    pick (eqb o.answer.code 0) (commands image (words_of o.leaves) input)
    (refused_line o.answer.code o.answer.place)

-- Bytes that are a whole number of words come back as they were. Assumes nothing.
use mathlib.Core.Path.{◌≡◌, refl, ap, ap₂, ◌∙◌}
use mathlib.Core.List.{List, [], ◌∷◌}
use Prim.Native.Nat.{ℕ, zero, suc, ◌*◌, ◌/◌, ◌%◌, ◌<◌}
use native.Mathlib.Omega.{arith}
use lib.ListN.{length}
use Rattle.rules.specs.Format.{word_from}
use Rattle.rules.specs.Words.{words_of, bytes_of}
use Rattle.laws.specs.Fit.{Bytes}

digits :
    (a b c d : ℕ) → a < 256 → b < 256 → c < 256 → d < 256 →
    (word_from a b c d % 256 ≡ a) × (word_from a b c d / 256 % 256 ≡ b) × (word_from a b c d / 65536 % 256 ≡ c)
    × (word_from a b c d / 16777216 % 256 ≡ d)
digits a b c d i j k l = (omega arith, omega arith, omega arith, omega arith)

pub bytes-again : (bytes : List ℕ) (n : ℕ) → length bytes ≡ 4 * n → Bytes bytes → bytes_of (words_of bytes) ≡ bytes
unfolding words_of bytes_of
bytes-again [] n h f = refl
bytes-again (a ∷ []) n h f = absurd (omega arith)
bytes-again (a ∷ b ∷ []) n h f = absurd (omega arith)
bytes-again (a ∷ b ∷ c ∷ []) n h f = absurd (omega arith)
bytes-again (a ∷ b ∷ c ∷ d ∷ bytes) zero h f = absurd (omega arith)
bytes-again (a ∷ b ∷ c ∷ d ∷ bytes) (suc n) h f =
    let q = digits a b c d (f 0) (f 1) (f 2) (f 3) in
    ap₂ (λ (x y : ℕ). x ∷ y ∷ word_from a b c d / 65536 % 256 ∷ word_from a b c d / 16777216 % 256 ∷ bytes_of (words_of bytes)) q.0 q.1
    ∙ ap₂ (λ (x y : ℕ). a ∷ b ∷ x ∷ y ∷ bytes_of (words_of bytes)) q.2 q.3
    ∙ ap (λ (l : List ℕ). a ∷ b ∷ c ∷ d ∷ l) (bytes-again bytes n (omega arith) (λ k. f (suc (suc (suc (suc k))))))

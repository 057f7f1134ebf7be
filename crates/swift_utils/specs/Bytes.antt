-- Bytes and their classes (document 01, swift_utils.rs).
use Rattle.std.specs.Prelude.{ℕ, Bool, true, false, ◌&&◌, ◌||◌, List, [], ◌∷◌, leb, eqb}
use Prim.Native.Char.{code}
use Prim.Native.String as S

-- the bytes of a quoted text
abbrev pub bytes : S.String → List ℕ
bytes S.[] = []
bytes (S.◌∷◌ c s) = code c ∷ bytes s

-- a test passes at every byte
abbrev pub all : (ℕ → Bool) → List ℕ → Bool
all f [] = true
all f (b ∷ l) = f b && all f l

-- a byte stands in a list
abbrev pub among : List ℕ → ℕ → Bool
among [] b = false
among (a ∷ l) b = eqb b a || among l b

-- a number from low to high
abbrev pub between : ℕ → ℕ → ℕ → Bool
between low high b = leb low b && leb b high

-- ASCII letters, A to Z and a to z
unfoldable pub letter : ℕ → Bool
letter b = between 65 90 b || between 97 122 b

-- the small ones of them, which a BIC has not under the network profile (document 02, Five)
unfoldable pub small : ℕ → Bool
small b = between 97 122 b

-- ASCII digits, 0 to 9
unfoldable pub digit : ℕ → Bool
digit b = between 48 57 b

-- letters and digits
unfoldable pub alphanumeric : ℕ → Bool
alphanumeric b = letter b || digit b

-- the other legal bytes: space, CR, LF and the signs
unfoldable pub signs : List ℕ
signs = bytes " \r\n/-?:().,'+{}%&*;<=>@[]_$!\"#|"

-- legal bytes, 93 in all
unfoldable pub legal : ℕ → Bool
legal b = alphanumeric b || among signs b

-- the network profile's bytes that are neither letters nor digits: space and `/-?:().,'+` (document 02, Five)
unfoldable pub narrow_signs : List ℕ
narrow_signs = bytes " /-?:().,'+"

-- the network profile's bytes, 73 in all (document 02, Five)
unfoldable pub narrow : ℕ → Bool
narrow b = alphanumeric b || among narrow_signs b

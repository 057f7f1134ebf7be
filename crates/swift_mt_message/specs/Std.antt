-- What the Rust uses of std. A text is the list of its bytes, and a character one byte: all of this is for ASCII. A `_` in a name of
-- the Rust is `-` here. What panics in the Rust gives `Panic` here; an index plus 1 never does, since no list is so long.
use Rattle.std.specs.Prelude.{ℕ, zero, suc, ◌+◌, ◌-◌, ◌/◌, ◌%◌, Bool, true, false, ◌&&◌, ◌||◌, List, [], ◌∷◌, ◌++◌, map, ltb, leb, eqb, drop}
use Rattle.std.proofs.Math.Option
use Rattle.std.proofs.Math.Option.{Option, none, some, get_or}

-- `String` and `&str`
abbrev pub Str : Type 0
Str = List ℕ

-- the characters '/', '\n' and '\r'
abbrev pub slash : ℕ
slash = 47

abbrev pub newline : ℕ
newline = 10

abbrev pub return : ℕ
return = 13

-- `crate::Result`, or a panic: an error's message is told by the refusal number and the body line that it stands for
pub data Result (A : Type 0) : Type 0 where
  Ok : A → Result A
  Err : ℕ → ℕ → Result A
  Panic : Result A

module _ {A B : Type 0} where
  -- `?`: an error is returned, and a value is used by what follows; a panic ends it all
  infixr 20 ◌and_then◌
  abbrev pub ◌and_then◌ : Result A → (A → Result B) → Result B
  Ok v and_then f = f v
  Err k n and_then f = Err k n
  Panic and_then f = Panic

  -- the same where the value is not used: a statement and those that follow it
  infixr 20 ◌then◌
  abbrev pub ◌then◌ : Result A → Result B → Result B
  Ok v then rest = rest
  Err k n then rest = Err k n
  Panic then rest = Panic

  -- `if test && let Ok(field) = tried { return Ok(variant(field)); }`, and what follows it
  unfoldable pub if_ok : Bool → Result A → (A → B) → Result B → Result B
  if_ok true (Ok field) variant rest = Ok (variant field)
  if_ok true (Err k n) variant rest = rest
  if_ok true Panic variant rest = Panic
  if_ok false tried variant rest = rest

  -- an arm of a match, `test => { let field = tried?; Ok(variant(field)) }`, and the arms below it
  unfoldable pub arm : Bool → Result A → (A → B) → Result B → Result B
  arm true tried variant rest = tried and_then λ field. Ok (variant field)
  arm false tried variant rest = rest

-- the statement `if test { return Err(..); }`
abbrev pub err_if : Bool → ℕ → ℕ → Result (Unit {0})
err_if true k n = Err k n
err_if false k n = Ok tt

-- `&&` and `||` where a side can panic: the right side is reached where the left leaves it open
infixr 30 ◌and◌
abbrev pub ◌and◌ : Result Bool → Result Bool → Result Bool
a and b = a and_then λ t. elim t [ true ↦ b | false ↦ Ok false ]

infixr 30 ◌or◌
abbrev pub ◌or◌ : Result Bool → Result Bool → Result Bool
a or b = a and_then λ t. elim t [ true ↦ Ok true | false ↦ b ]

-- `a - b` of two `usize`
abbrev pub minus : ℕ → ℕ → Result ℕ
minus a b = elim (leb b a) [ true ↦ Ok (a - b) | false ↦ Panic ]

module _ {A B : Type 0} where
  -- `for (i, x) in xs.iter().enumerate()` from the index i on: the body changes the variables of the loop, or returns an error
  unfoldable pub for_from : (B → ℕ → A → Result B) → B → ℕ → List A → Result B
  for_from body vars i [] = Ok vars
  for_from body vars i (x ∷ xs) = body vars i x and_then λ v. for_from body v (suc i) xs

  -- `for (i, x) in xs.iter().enumerate().skip(n)`
  abbrev pub for_skip : ℕ → (B → ℕ → A → Result B) → B → List A → Result B
  for_skip n body vars xs = for_from body vars n (drop n xs)

module _ {A : Type 0} where
  -- `is_empty`
  abbrev pub rust_is_empty : List A → Bool
  rust_is_empty [] = true
  rust_is_empty (x ∷ xs) = false

  -- `push`
  abbrev pub push : List A → A → List A
  push xs x = xs ++ (x ∷ [])

  -- `.all(..)`
  abbrev pub all : (A → Bool) → List A → Bool
  all f [] = true
  all f (x ∷ xs) = f x && all f xs

  -- `.any(..)`
  abbrev pub any : (A → Bool) → List A → Bool
  any f [] = false
  any f (x ∷ xs) = f x || any f xs

  -- `last`
  abbrev pub last : List A → Option A
  last [] = none
  last (x ∷ []) = some x
  last (x ∷ y ∷ xs) = last (y ∷ xs)

  -- `.chars().nth(i)`; with 0, `.chars().next()`
  abbrev pub nth : ℕ → List A → Option A
  nth i [] = none
  nth zero (x ∷ xs) = some x
  nth (suc i) (x ∷ xs) = nth i xs

  -- `is_some`
  abbrev pub is_some : Option A → Bool
  is_some none = false
  is_some (some x) = true

  -- `is_some_and`
  abbrev pub is_some_and : (A → Bool) → Option A → Bool
  is_some_and f none = false
  is_some_and f (some x) = f x

  -- `unwrap`
  abbrev pub unwrap : Option A → Result A
  unwrap none = Panic
  unwrap (some x) = Ok x

  -- `xs[i]`
  abbrev pub at : List A → ℕ → Result A
  at [] i = Panic
  at (x ∷ xs) zero = Ok x
  at (x ∷ xs) (suc i) = at xs i

-- `== Some(c)` of a character
abbrev pub equals : Option ℕ → ℕ → Bool
equals c d = is_some_and (λ b. eqb b d) c

-- a character in front of the first of some pieces, or a piece of its own where there is none
unfoldable pub in_front : ℕ → List Str → List Str
in_front b [] = (b ∷ []) ∷ []
in_front b (p ∷ ps) = (b ∷ p) ∷ ps

-- `split_inclusive('\n')`: each piece keeps its newline
unfoldable pub split_inclusive : Str → List Str
split_inclusive [] = []
split_inclusive (b ∷ s) = elim (eqb b newline) [ true ↦ (b ∷ []) ∷ split_inclusive s | false ↦ in_front b (split_inclusive s) ]

-- `strip_suffix` of a character
unfoldable pub strip_suffix : Str → ℕ → Option Str
strip_suffix [] c = none
strip_suffix (b ∷ []) c = elim (eqb b c) [ true ↦ some [] | false ↦ none ]
strip_suffix (b ∷ a ∷ s) c = Option.map (λ t. b ∷ t) (strip_suffix (a ∷ s) c)

-- a piece without its newline, and then without a '\r'
unfoldable pub line_of : Str → Str
line_of piece = elim (strip_suffix piece newline) [ some line ↦ get_or (strip_suffix line return) line | none ↦ piece ]

-- `lines`
abbrev pub lines : Str → List Str
lines s = map line_of (split_inclusive s)

-- `let lines: Vec<&str> = input.lines().collect();`, and what follows it
unfoldable pub let_lines : {A : Type 0} → Str → (List Str → A) → A
let_lines input rest = rest (lines input)

-- `&s[a..]`
abbrev pub slice_from : ℕ → Str → Result Str
slice_from zero s = Ok s
slice_from (suc a) [] = Panic
slice_from (suc a) (b ∷ s) = slice_from a s

-- `&s[..e]`
abbrev pub slice_to : ℕ → Str → Result Str
slice_to zero s = Ok []
slice_to (suc e) [] = Panic
slice_to (suc e) (b ∷ s) = slice_to e s and_then λ t. Ok (b ∷ t)

-- `&s[a..e]`
abbrev pub slice : ℕ → ℕ → Str → Result Str
slice a e s = slice_to e s and_then slice_from a

-- `==` of texts
abbrev pub same : Str → Str → Bool
same [] [] = true
same [] (b ∷ t) = false
same (a ∷ s) [] = false
same (a ∷ s) (b ∷ t) = eqb a b && same s t

-- `contains` of a character
abbrev pub contains : Str → ℕ → Bool
contains s c = any (λ b. eqb c b) s

-- `starts_with` of a character
abbrev pub starts_with : Str → ℕ → Bool
starts_with [] c = false
starts_with (b ∷ s) c = eqb b c

-- `strip_prefix` of a character
abbrev pub strip_prefix : Str → ℕ → Option Str
strip_prefix [] c = none
strip_prefix (b ∷ s) c = elim (eqb b c) [ true ↦ some s | false ↦ none ]

-- `find` of a character
unfoldable pub find : Str → ℕ → Option ℕ
find [] c = none
find (b ∷ s) c = elim (eqb b c) [ true ↦ some 0 | false ↦ Option.map suc (find s c) ]

-- `(low..=high).contains(&n)`, and a range as a pattern
abbrev pub within : ℕ → ℕ → ℕ → Bool
within low high n = leb low n && leb n high

-- `is_alphabetic` and `is_ascii_alphabetic`
unfoldable pub is_alphabetic : ℕ → Bool
is_alphabetic c = within 97 122 c || within 65 90 c

-- `is_numeric` and `is_ascii_digit`
unfoldable pub is_digit : ℕ → Bool
is_digit c = within 48 57 c

-- `is_alphanumeric` and `is_ascii_alphanumeric`
unfoldable pub is_alphanumeric : ℕ → Bool
is_alphanumeric c = is_alphabetic c || is_digit c

-- `is_whitespace`
unfoldable pub is_whitespace : ℕ → Bool
is_whitespace c = eqb c 32 || within 9 13 c

-- `to_digit(10)`
abbrev pub to_digit : ℕ → Option ℕ
to_digit c = elim (is_digit c) [ true ↦ some (c - 48) | false ↦ none ]

-- `trim_start`
unfoldable pub trim_start : Str → Str
trim_start [] = []
trim_start (b ∷ s) = elim (is_whitespace b) [ true ↦ trim_start s | false ↦ b ∷ s ]

-- `trim_end`
unfoldable pub trim_end : Str → Str
trim_end [] = []
trim_end (b ∷ s) = elim (all is_whitespace (b ∷ s)) [ true ↦ [] | false ↦ b ∷ trim_end s ]

-- `trim`
abbrev pub trim : Str → Str
trim s = trim_end (trim_start s)

-- `join("\n")`
abbrev pub join : List Str → Str
join [] = []
join (s ∷ []) = s
join (s ∷ t ∷ ss) = s ++ newline ∷ join (t ∷ ss)

-- the decimal digits of a number that has at most m of them
unfoldable pub digits : ℕ → ℕ → Str
digits zero n = []
digits (suc m) n = elim (ltb n 10) [ true ↦ (48 + n) ∷ [] | false ↦ digits m (n / 10) ++ ((48 + n % 10) ∷ []) ]

-- `{}` of a number
abbrev pub number : ℕ → Str
number n = digits (suc n) n

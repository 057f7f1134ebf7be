-- The Rust's loops over lines of names are document 01's: one law for all, and a law for the line of each. Assumes nothing.
use mathlib.Core.Path.{◌≡◌, refl, sym, ◌∙◌, ap}
use mathlib.Core.Bool.{Bool, true, false, not, ◌&&◌, ◌||◌, and-eq-true_iff, false≢true}
use mathlib.Core.List.{List, [], ◌∷◌, ◌++◌, map, append-nil, append_assoc}
use Prim.Native.Nat.{ℕ, suc, ◌+◌, ◌-◌, ◌≤◌}
use native.Mathlib.Omega.{arith}
use lib.Dec.{ltb, leb, eqb}
use lib.ListN.{length, drop, get_or, length-map}
use borrow.Author.Tests.{le-leb, leb-true, eqb-true, eqb-false, eq-eqb, ne_eqb, le-ltb}
use Rattle.errors.specs.Refusals.{Reply, must, ◌then◌}
use Rattle.errors.proofs.Replies.{must_held, then_assoc}
use Rattle.party.specs.declared.PartyOption.{PartyOption}
use Rattle.party.specs.Limits.{limits_of}
use Rattle.party.specs.declared.Numbering.{Numbering}
use Rattle.party.specs.declared.Numbering.TheVariants.{Unnumbered, Numbered, InTurn}
use Rattle.swift_utils.specs.Bytes.{between, digit}
use Rattle.field_utils.specs.Identifier.{is_numbered}
use Rattle.field_utils.specs.Names.{parse_line, parse_lines, parse_count, parse_name_and_address, kept}
use Rattle.field_utils.proofs.NameLines.{numbered_room}
use Rattle.swift_mt_message.specs.Std.{Str, slash, Result, Ok, ◌and_then◌, err_if, ◌or◌, for_from, rust_is_empty, push, nth, is_some_and, equals, unwrap, to_digit, is_digit}
use Rattle.swift_mt_message.specs.Std as S
use Rattle.swift_mt_message.specs.SwiftUtils.{rust_parse_swift_chars}
use Rattle.swift_mt_message.specs.Field50.{Field50NoOption·line, Field50F·line, Field50K·line, Field50H·line, numbered}
use Rattle.swift_mt_message.specs.Field59.{Field59F·line}
use Rattle.swift_mt_message.proofs.Results.{by_test, Is, ok, err, must_is, must_at, then_is, and_is, last_is, reply_is, value_is}
use Rattle.swift_mt_message.proofs.Std.{digits, at_most, from_is, minus_is}
use Rattle.swift_mt_message.proofs.SwiftUtils.{swift_chars, chars_at}

-- the variables of a loop after its lines
abbrev pub over : {B : Type 0} → (B → Str → B) → B → List Str → B
over add vars [] = vars
over add vars (l ∷ ls) = over add (add vars l) ls

-- a loop whose body tests a line as document 01 does, and then changes the variables; i is the line's index, and j of its places from
-- the start on
module _ {B : Type 0} (f : Numbering) (longest start : ℕ) (add : B → Str → B) (body : B → ℕ → Str → Result B) where
  abbrev pub Tests : Type 0
  Tests = (vars : B) (i j : ℕ) (l : Str) → i ≡ start + j → Is (body vars i l) (parse_line f longest (suc i) (suc j) l) (add vars l)

  pub loop : Tests → (vars : B) (i j : ℕ) (ls : List Str) → i ≡ start + j
      → Is (for_from body vars i ls) (parse_lines f longest (suc i) (suc j) ls) (over add vars ls)
  unfolding for_from parse_lines
  loop tests vars i j [] e = ok
  loop tests vars i j (l ∷ ls) e =
      and_is (λ v. for_from body v (suc i) ls) (tests vars i j l e) (λ g. loop tests (add vars l) (suc i) (suc j) ls (omega arith))

-- names that are pushed
abbrev pub pushed : Numbering → List Str → Str → List Str
pushed f names l = push names (kept f l)

over_pushed : (f : Numbering) (names ls : List Str) → over (pushed f) names ls ≡ names ++ map (kept f) ls
over_pushed f names [] = sym (append-nil names)
over_pushed f names (l ∷ ls) = over_pushed f (push names (kept f l)) ls ∙ append_assoc names (kept f l ∷ []) (map (kept f) ls)

-- the count, which comes last
counts : {C : Type 0} (names : List Str) {n : ℕ} (w : C) → length names ≡ n
    → Is (S.◌then◌ (err_if (rust_is_empty names) 7 0) (S.◌then◌ (err_if (ltb 4 (length names)) 7 0) (Ok w))) (parse_count 4 n) w
counts [] w e = reply_is err (ap (parse_count 4) e)
counts (l ∷ names) w e =
    reply_is
    (last_is (must_is _ (leb (length (l ∷ names)) 4) 7 0 (at_most (length (l ∷ names)) 4)) (λ g. ok))
    (rw (le-leb 1 (length (l ∷ names)) (omega arith)) refl ∙ ap (parse_count 4) e)

-- names, tested in order and counted last
module _ (o : PartyOption) (four : (limits_of o).max_names ≡ 4) {C : Type 0} (make : List Str → C) (start : ℕ) (body : List Str → ℕ → Str → Result (List Str))
    (tests : Tests (limits_of o).numbering (limits_of o).name_max start (pushed (limits_of o).numbering) body) (ls : List Str) where
  tested : Is (for_from body [] start ls) (parse_lines (limits_of o).numbering (limits_of o).name_max (suc start) 1 ls) (map (kept (limits_of o).numbering) ls)
  tested =
      value_is
      (loop (limits_of o).numbering (limits_of o).name_max start (pushed (limits_of o).numbering) body tests [] start 0 ls (omega arith))
      (over_pushed (limits_of o).numbering [] ls)

  counted : (check : List Str → Result C) → ((ns : List Str) → length ns ≡ length ls → Is (check ns) (parse_count 4 (length ls)) (make ns))
      → Is (for_from body [] start ls and_then check) (parse_name_and_address o (suc start) ls) (make (map (kept (limits_of o).numbering) ls))
  unfolding parse_name_and_address
  counted check f = and_is check tested (λ g. rw four (f (map (kept (limits_of o).numbering) ls) (length-map ls (kept (limits_of o).numbering))))

  pub named : Is
      (for_from body [] start ls and_then λ names. S.◌then◌ (err_if (rust_is_empty names) 7 0) (S.◌then◌ (err_if (ltb 4 (length names)) 7 0) (Ok (make names))))
      (parse_name_and_address o (suc start) ls)
      (make (map (kept (limits_of o).numbering) ls))
  named = counted _ (λ ns e. counts ns (make ns) e)

  -- where there is a name, it is tested only that they are not too many
  pub named_some : 1 ≤ length ls
      → Is
      (for_from body [] start ls and_then λ names. S.◌then◌ (err_if (ltb 4 (length names)) 7 0) (Ok (make names)))
      (parse_name_and_address o (suc start) ls)
      (make (map (kept (limits_of o).numbering) ls))
  named_some h = counted _ (λ ns e. rw (le-leb 1 (length ls) h, ← e) (last_is (must_is _ (leb (length ns) 4) 7 0 (at_most (length ns) 4)) (λ k. ok)))

-- a line of names without a number
plain : {C : Type 0} (m n k : ℕ) (l : Str) (w : C) → m ≡ n
    → Is (S.◌then◌ (err_if (ltb 35 (length l)) 4 m) (S.◌then◌ (rust_parse_swift_chars l m) (Ok w))) (parse_line Unnumbered 35 n k l) w
unfolding parse_line
plain m n k l w e = rw e (then_is (must_is _ (leb (length l) 35) 4 n (at_most (length l) 35)) (λ g. last_is (swift_chars l n) (λ h. ok)))

pub line_50 : Tests Unnumbered 35 0 (λ vars l. tt) Field50NoOption·line
unfolding Field50NoOption·line
line_50 vars i j l e = plain (i + 1) (suc i) (suc j) l tt (omega arith)

-- and 59, which has the same loop
pub line_50K : (start : ℕ) → Tests Unnumbered 35 start (pushed Unnumbered) (Field50K·line start)
unfolding Field50K·line
line_50K start names i j l e = rw (minus_is i start (omega arith)) (plain (start + (i - start + 1)) (suc i) (suc j) l (push names l) (omega arith))

pub line_50H : Tests Unnumbered 35 1 (pushed Unnumbered) Field50H·line
unfolding Field50H·line
line_50H names i j l e = plain (1 + i) (suc i) (suc j) l (push names l) (omega arith)

-- a numbered line, as the choices test it
pub numbers : (l : Str) → numbered l ≡ is_numbered l
unfolding numbered is_numbered
numbers [] = refl
numbers (d ∷ []) = refl
numbers (d ∷ s ∷ l) = rw (le-leb 2 (length (d ∷ s ∷ l)) (omega arith), digits d)

-- as 50F does, in two steps
both : {C : Type 0} (a b : Bool) (k n : ℕ) {rest : Result C} {r : Reply} {v : C} → ((a && b) ≡ true → Is rest r v)
    → Is (S.◌then◌ (err_if (not a) k n) (S.◌then◌ (err_if (not b) k n) rest)) (must (a && b) k n then r) v
both true true k n f = f refl
both true false k n f = err
both false b k n f = err

two_steps : {C : Type 0} (l : Str) (n : ℕ) {rest : Result C} {r : Reply} {v : C} → (is_numbered l ≡ true → Is rest r v)
    → Is
    (S.◌then◌ (err_if (ltb (length l) 2 || not (is_some_and is_digit (nth 0 l))) 5 n) (S.◌then◌ (err_if (not (equals (nth 1 l) slash)) 5 n) rest))
    (must (is_numbered l) 5 n then r)
    v
unfolding is_numbered
two_steps [] n f = err
two_steps (d ∷ []) n f = err
two_steps (d ∷ s ∷ l) n f = rw (le-ltb (length (d ∷ s ∷ l)) 2 (omega arith), digits d) (both (digit d) (eqb s slash) 5 n f)

pub line_50F : Tests Numbered 33 1 (pushed Numbered) Field50F·line
unfolding Field50F·line parse_line
line_50F names i j l e =
    let n : 1 + i ≡ suc i = omega arith in
    rw n
    (two_steps l (suc i) (λ t.
    rw (from_is 2 l (numbered_room l t))
    (then_is (must_is _ (leb (length (drop 2 l)) 33) 4 (suc i) (at_most (length (drop 2 l)) 33)) (λ g. last_is (swift_chars (drop 2 l) (suc i)) (λ h. ok)))))

-- as 59F does, in one
one_step : (l : Str)
    → (Ok (ltb (length l) 2) or (unwrap (nth 0 l) and_then λ c. Ok (not (is_digit c))) or Ok (not (equals (nth 1 l) slash))) ≡ Ok (not (is_numbered l))
unfolding is_numbered
one_step [] = refl
one_step (d ∷ []) = refl
one_step (d ∷ s ∷ l) = rw (le-ltb (length (d ∷ s ∷ l)) 2 (omega arith), digits d) (by_test (digit d) (λ e. rw e) (λ e. rw e))

-- its digit is there
line_number : (l : Str) → is_numbered l ≡ true → (unwrap (nth 0 l) and_then λ c. unwrap (to_digit c)) ≡ Ok (get_or l 0 0 - 48)
unfolding is_numbered
line_number [] e = absurd (false≢true e)
line_number (d ∷ []) e = absurd (false≢true e)
line_number (d ∷ s ∷ l) e = rw (digits d ∙ ((and-eq-true_iff (digit d) (eqb s slash)).0 e).0, to_digit)

-- the number of a line is its byte less that of 0
turn : (l : Str) (m k : ℕ) → is_numbered l ≡ true → m ≡ k → eqb (get_or l 0 0 - 48) m ≡ eqb (get_or l 0 0) (48 + k)
unfolding is_numbered digit
turn [] m k e f = absurd (false≢true e)
turn (d ∷ []) m k e f = absurd (false≢true e)
turn (d ∷ s ∷ l) m k e f =
    let low = leb-true 48 d ((and-eq-true_iff _ _).0 ((and-eq-true_iff (between 48 57 d) (eqb s slash)).0 e).0).0 in
    by_test (eqb d (48 + k))
    (λ g. rw g (eq-eqb (d - 48) m (omega (arith, eqb-true d (48 + k) g))))
    (λ g. rw g (ne_eqb (d - 48) m (λ h. eqb-false d (48 + k) g (omega (arith, low)))))

pub line_59F : (start : ℕ) → Tests InTurn 33 start (pushed InTurn) (Field59F·line start)
unfolding Field59F·line parse_line
line_59F start names i j l e =
    let num = get_or l 0 0 - 48 in
    let m : i - start + 1 ≡ suc j = omega arith in
    let n : start + (i - start + 1) ≡ suc i = omega arith in
    reply_is
    (rw (one_step l, minus_is i start (omega arith))
    (then_is (must_at _ (is_numbered l) 5 refl n) (λ f.
    let numbered = must_held (is_numbered l) 5 (suc i) f in
    let t = turn l (i - start + 1) (suc j) numbered m in
    rw (line_number l numbered, from_is 2 l (numbered_room l numbered))
    (then_is (must_at _ (eqb (get_or l 0 0) (48 + suc j)) 6 (ap not t) n) (λ g.
    let k : num ≡ i - start + 1 = eqb-true num (i - start + 1) (t ∙ must_held _ 6 (suc i) g) in
    let p : start + num ≡ suc i = omega arith in
    then_is (must_at _ (leb (length (drop 2 l)) 33) 4 (at_most (length (drop 2 l)) 33) p) (λ h.
    last_is (chars_at (drop 2 l) p) (λ q. ok)))))))
    (sym (then_assoc (must (is_numbered l) 5 (suc i)) (must (eqb (get_or l 0 0) (48 + suc j)) 6 (suc i)) _))

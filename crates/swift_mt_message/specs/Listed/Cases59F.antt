-- Made of crates/replay/stdin by tests/rust/listed: the cases of 59F.
use Rattle.std.specs.Prelude.{List, [], ◌∷◌}
use Rattle.std.proofs.Math.Option.{none, some}
use Rattle.party.specs.declared.PartyOption.TheVariants.{Field59F}
use Rattle.swift_mt_message.specs.Cases.{Case, parse, ok, no}

abbrev pub cases : List Case
cases =
    parse "/1\n1/A" (ok Field59F (some "1") "" ("1/A" ∷ []) ":59F:/1\n\n1/A") ∷
    parse "/1\n\n1/A" (no 5 2) ∷
    parse "2/A" (no 6 1) ∷
    parse "1/A\n1/B" (no 6 2) ∷
    parse "" (no 1 0) ∷
    parse "//\n1/A" (no 2 1) ∷
    parse "/ABC/1\n1/A" (no 2 1) ∷
    parse "/A-/1\n1/A" (no 2 1) ∷
    parse "/~/1\n1/A" (no 2 1) ∷
    parse "1/~\n~" (no 3 1) ∷
    parse "1/~" (no 3 1) ∷
    parse "1/A^\n~" (no 3 1) ∷
    parse "1/A^" (no 3 1) ∷
    parse "1/A\n2/~\n~" (no 3 2) ∷
    parse "1/A\n2/~" (no 3 2) ∷
    parse "1/A\n2/A^\n~" (no 3 2) ∷
    parse "1/A\n2/A^" (no 3 2) ∷
    parse "1/A\n2/A\n3/~\n~" (no 3 3) ∷
    parse "1/A\n2/A\n3/~" (no 3 3) ∷
    parse "1/A\n2/A\n3/A^\n~" (no 3 3) ∷
    parse "1/A\n2/A\n3/A^" (no 3 3) ∷
    parse "1/A\n2/A\n3/A\n4/~\n~" (no 3 4) ∷
    parse "1/A\n2/A\n3/A\n4/~" (no 3 4) ∷
    parse "1/A\n2/A\n3/A\n4/A^\n~" (no 3 4) ∷
    parse "1/A\n2/A\n3/A\n4/A^" (no 3 4) ∷
    parse "1/A\n2/A\n3/A\n4/A\n5/~\n~" (no 3 5) ∷
    parse "1/A\n2/A\n3/A\n4/A\n5/~" (no 3 5) ∷
    parse "1/A\n2/A\n3/A\n4/A\n5/A^\n~" (no 3 5) ∷
    parse "1/A\n2/A\n3/A\n4/A\n5/A^" (no 3 5) ∷
    parse "1/A\n2/A\n3/A\n4/A\n5/A\n6/~\n~" (no 3 6) ∷
    parse "1/A\n2/A\n3/A\n4/A\n5/A\n6/~" (no 3 6) ∷
    parse "1/A\n2/A\n3/A\n4/A\n5/A\n6/A^\n~" (no 3 6) ∷
    parse "1/A\n2/A\n3/A\n4/A\n5/A\n6/A^" (no 3 6) ∷
    parse "1/A\n2/A\n3/A\n4/A\n5/A\n6/A\n7/~\n~" (no 3 7) ∷
    parse "1/A\n2/A\n3/A\n4/A\n5/A\n6/A\n7/~" (no 3 7) ∷
    parse "1/A\n2/A\n3/A\n4/A\n5/A\n6/A\n7/A^\n~" (no 3 7) ∷
    parse "1/A\n2/A\n3/A\n4/A\n5/A\n6/A\n7/A^" (no 3 7) ∷
    parse "1/A\n2/A\n3/A\n4/A\n5/A\n6/A\n7/A\n8/~\n~" (no 3 8) ∷
    parse "1/A\n2/A\n3/A\n4/A\n5/A\n6/A\n7/A\n8/~" (no 3 8) ∷
    parse "1/A\n2/A\n3/A\n4/A\n5/A\n6/A\n7/A\n8/A^\n~" (no 3 8) ∷
    parse "1/A\n2/A\n3/A\n4/A\n5/A\n6/A\n7/A\n8/A^" (no 3 8) ∷
    parse "1/A\n2/A\n3/A\n4/A\n5/A\n6/A\n7/A\n8/A\n9/~\n~" (no 3 9) ∷
    parse "1/A\n2/A\n3/A\n4/A\n5/A\n6/A\n7/A\n8/A\n9/~" (no 3 9) ∷
    parse "1/A\n2/A\n3/A\n4/A\n5/A\n6/A\n7/A\n8/A\n9/A^\n~" (no 3 9) ∷
    parse "1/A\n2/A\n3/A\n4/A\n5/A\n6/A\n7/A\n8/A\n9/A^" (no 3 9) ∷
    parse "/A\n1/A\n2/A\n3/A\n4/A\n5/A\n6/A\n7/A\n8/A\n9/~\n~" (no 3 10) ∷
    parse "/A\n1/A\n2/A\n3/A\n4/A\n5/A\n6/A\n7/A\n8/A\n9/~" (no 3 10) ∷
    parse "/A\n1/A\n2/A\n3/A\n4/A\n5/A\n6/A\n7/A\n8/A\n9/A^\n~" (no 3 10) ∷
    parse "/A\n1/A\n2/A\n3/A\n4/A\n5/A\n6/A\n7/A\n8/A\n9/A^" (no 3 10) ∷
    parse "1/ABCDEFGHIJKLMNOPQRSTUVWXYZ01234567\n~" (no 4 1) ∷
    parse "1/ABCDEFGHIJKLMNOPQRSTUVWXYZ01234567" (no 4 1) ∷
    parse "1/A\n2/ABCDEFGHIJKLMNOPQRSTUVWXYZ01234567\n~" (no 4 2) ∷
    parse "1/A\n2/ABCDEFGHIJKLMNOPQRSTUVWXYZ01234567" (no 4 2) ∷
    parse "/A\n1/ABCDEFGHIJKLMNOPQRSTUVWXYZ01234567\n~" (no 4 2) ∷
    parse "/A\n1/ABCDEFGHIJKLMNOPQRSTUVWXYZ01234567" (no 4 2) ∷
    parse "1/A\n2/A\n3/ABCDEFGHIJKLMNOPQRSTUVWXYZ01234567\n~" (no 4 3) ∷
    parse "1/A\n2/A\n3/ABCDEFGHIJKLMNOPQRSTUVWXYZ01234567" (no 4 3) ∷
    parse "/A\n1/A\n2/ABCDEFGHIJKLMNOPQRSTUVWXYZ01234567\n~" (no 4 3) ∷
    parse "/A\n1/A\n2/ABCDEFGHIJKLMNOPQRSTUVWXYZ01234567" (no 4 3) ∷
    parse "1/A\n2/A\n3/A\n4/ABCDEFGHIJKLMNOPQRSTUVWXYZ01234567\n~" (no 4 4) ∷
    parse "1/A\n2/A\n3/A\n4/ABCDEFGHIJKLMNOPQRSTUVWXYZ01234567" (no 4 4) ∷
    parse "/A\n1/A\n2/A\n3/ABCDEFGHIJKLMNOPQRSTUVWXYZ01234567\n~" (no 4 4) ∷
    parse "/A\n1/A\n2/A\n3/ABCDEFGHIJKLMNOPQRSTUVWXYZ01234567" (no 4 4) ∷
    parse "1/A\n2/A\n3/A\n4/A\n5/ABCDEFGHIJKLMNOPQRSTUVWXYZ01234567\n~" (no 4 5) ∷
    parse "1/A\n2/A\n3/A\n4/A\n5/ABCDEFGHIJKLMNOPQRSTUVWXYZ01234567" (no 4 5) ∷
    parse "/A\n1/A\n2/A\n3/A\n4/ABCDEFGHIJKLMNOPQRSTUVWXYZ01234567\n~" (no 4 5) ∷
    parse "/A\n1/A\n2/A\n3/A\n4/ABCDEFGHIJKLMNOPQRSTUVWXYZ01234567" (no 4 5) ∷
    parse "1/A\n2/A\n3/A\n4/A\n5/A\n6/ABCDEFGHIJKLMNOPQRSTUVWXYZ01234567\n~" (no 4 6) ∷
    parse "1/A\n2/A\n3/A\n4/A\n5/A\n6/ABCDEFGHIJKLMNOPQRSTUVWXYZ01234567" (no 4 6) ∷
    parse "/A\n1/A\n2/A\n3/A\n4/A\n5/ABCDEFGHIJKLMNOPQRSTUVWXYZ01234567\n~" (no 4 6) ∷
    parse "/A\n1/A\n2/A\n3/A\n4/A\n5/ABCDEFGHIJKLMNOPQRSTUVWXYZ01234567" (no 4 6) ∷
    parse "1/A\n2/A\n3/A\n4/A\n5/A\n6/A\n7/ABCDEFGHIJKLMNOPQRSTUVWXYZ01234567\n~" (no 4 7) ∷
    parse "1/A\n2/A\n3/A\n4/A\n5/A\n6/A\n7/ABCDEFGHIJKLMNOPQRSTUVWXYZ01234567" (no 4 7) ∷
    parse "/A\n1/A\n2/A\n3/A\n4/A\n5/A\n6/ABCDEFGHIJKLMNOPQRSTUVWXYZ01234567\n~" (no 4 7) ∷
    parse "/A\n1/A\n2/A\n3/A\n4/A\n5/A\n6/ABCDEFGHIJKLMNOPQRSTUVWXYZ01234567" (no 4 7) ∷
    parse "1/A\n2/A\n3/A\n4/A\n5/A\n6/A\n7/A\n8/ABCDEFGHIJKLMNOPQRSTUVWXYZ01234567\n~" (no 4 8) ∷
    parse "1/A\n2/A\n3/A\n4/A\n5/A\n6/A\n7/A\n8/ABCDEFGHIJKLMNOPQRSTUVWXYZ01234567" (no 4 8) ∷
    parse "/A\n1/A\n2/A\n3/A\n4/A\n5/A\n6/A\n7/ABCDEFGHIJKLMNOPQRSTUVWXYZ01234567\n~" (no 4 8) ∷
    parse "/A\n1/A\n2/A\n3/A\n4/A\n5/A\n6/A\n7/ABCDEFGHIJKLMNOPQRSTUVWXYZ01234567" (no 4 8) ∷
    parse "1/A\n2/A\n3/A\n4/A\n5/A\n6/A\n7/A\n8/A\n9/ABCDEFGHIJKLMNOPQRSTUVWXYZ01234567\n~" (no 4 9) ∷
    parse "1/A\n2/A\n3/A\n4/A\n5/A\n6/A\n7/A\n8/A\n9/ABCDEFGHIJKLMNOPQRSTUVWXYZ01234567" (no 4 9) ∷
    parse "/A\n1/A\n2/A\n3/A\n4/A\n5/A\n6/A\n7/A\n8/ABCDEFGHIJKLMNOPQRSTUVWXYZ01234567\n~" (no 4 9) ∷
    parse "/A\n1/A\n2/A\n3/A\n4/A\n5/A\n6/A\n7/A\n8/ABCDEFGHIJKLMNOPQRSTUVWXYZ01234567" (no 4 9) ∷
    parse "/A\n1/A\n2/A\n3/A\n4/A\n5/A\n6/A\n7/A\n8/A\n9/ABCDEFGHIJKLMNOPQRSTUVWXYZ01234567\n~" (no 4 10) ∷
    parse "/A\n1/A\n2/A\n3/A\n4/A\n5/A\n6/A\n7/A\n8/A\n9/ABCDEFGHIJKLMNOPQRSTUVWXYZ01234567" (no 4 10) ∷
    parse "A\n~" (no 5 1) ∷
    parse "A" (no 5 1) ∷
    parse "\n~" (no 5 1) ∷
    parse "1/A\nA\n~" (no 5 2) ∷
    parse "1/A\nA" (no 5 2) ∷
    parse "1/A\n\n~" (no 5 2) ∷
    parse "1/A\n" (ok Field59F none "" ("1/A" ∷ []) ":59F:1/A") ∷
    parse "1/A\n2/A\nA\n~" (no 5 3) ∷
    parse "1/A\n2/A\nA" (no 5 3) ∷
    parse "1/A\n2/A\n\n~" (no 5 3) ∷
    parse "1/A\n2/A\n" (ok Field59F none "" ("1/A" ∷ "2/A" ∷ []) ":59F:1/A\n2/A") ∷
    parse "1/A\n2/A\n3/A\nA\n~" (no 5 4) ∷
    parse "1/A\n2/A\n3/A\nA" (no 5 4) ∷
    parse "1/A\n2/A\n3/A\n\n~" (no 5 4) ∷
    parse "1/A\n2/A\n3/A\n" (ok Field59F none "" ("1/A" ∷ "2/A" ∷ "3/A" ∷ []) ":59F:1/A\n2/A\n3/A") ∷
    parse "1/A\n2/A\n3/A\n4/A\nA\n~" (no 5 5) ∷
    parse "1/A\n2/A\n3/A\n4/A\nA" (no 5 5) ∷
    parse "1/A\n2/A\n3/A\n4/A\n\n~" (no 5 5) ∷
    parse "1/A\n2/A\n3/A\n4/A\n" (ok Field59F none "" ("1/A" ∷ "2/A" ∷ "3/A" ∷ "4/A" ∷ []) ":59F:1/A\n2/A\n3/A\n4/A") ∷
    parse "1/A\n2/A\n3/A\n4/A\n5/A\nA\n~" (no 5 6) ∷
    parse "1/A\n2/A\n3/A\n4/A\n5/A\nA" (no 5 6) ∷
    parse "1/A\n2/A\n3/A\n4/A\n5/A\n\n~" (no 5 6) ∷
    parse "1/A\n2/A\n3/A\n4/A\n5/A\n" (no 7 0) ∷
    parse "1/A\n2/A\n3/A\n4/A\n5/A\n6/A\nA\n~" (no 5 7) ∷
    parse "1/A\n2/A\n3/A\n4/A\n5/A\n6/A\nA" (no 5 7) ∷
    parse "1/A\n2/A\n3/A\n4/A\n5/A\n6/A\n\n~" (no 5 7) ∷
    parse "1/A\n2/A\n3/A\n4/A\n5/A\n6/A\n" (no 7 0) ∷
    parse "1/A\n2/A\n3/A\n4/A\n5/A\n6/A\n7/A\nA\n~" (no 5 8) ∷
    parse "1/A\n2/A\n3/A\n4/A\n5/A\n6/A\n7/A\nA" (no 5 8) ∷
    parse "1/A\n2/A\n3/A\n4/A\n5/A\n6/A\n7/A\n\n~" (no 5 8) ∷
    parse "1/A\n2/A\n3/A\n4/A\n5/A\n6/A\n7/A\n" (no 7 0) ∷
    parse "1/A\n2/A\n3/A\n4/A\n5/A\n6/A\n7/A\n8/A\nA\n~" (no 5 9) ∷
    parse "1/A\n2/A\n3/A\n4/A\n5/A\n6/A\n7/A\n8/A\nA" (no 5 9) ∷
    parse "1/A\n2/A\n3/A\n4/A\n5/A\n6/A\n7/A\n8/A\n\n~" (no 5 9) ∷
    parse "1/A\n2/A\n3/A\n4/A\n5/A\n6/A\n7/A\n8/A\n" (no 7 0) ∷
    parse "1/A\n2/A\n3/A\n4/A\n5/A\n6/A\n7/A\n8/A\n9/A\nA\n~" (no 5 10) ∷
    parse "1/A\n2/A\n3/A\n4/A\n5/A\n6/A\n7/A\n8/A\n9/A\nA" (no 5 10) ∷
    parse "1/A\n2/A\n3/A\n4/A\n5/A\n6/A\n7/A\n8/A\n9/A\n\n~" (no 5 10) ∷
    parse "1/A\n2/A\n3/A\n4/A\n5/A\n6/A\n7/A\n8/A\n9/A\n" (no 7 0) ∷
    parse "/A\n1/A\n2/A\n3/A\n4/A\n5/A\n6/A\n7/A\n8/A\n9/A\nA\n~" (no 5 11) ∷
    parse "/A\n1/A\n2/A\n3/A\n4/A\n5/A\n6/A\n7/A\n8/A\n9/A\nA" (no 5 11) ∷
    parse "/A\n1/A\n2/A\n3/A\n4/A\n5/A\n6/A\n7/A\n8/A\n9/A\n\n~" (no 5 11) ∷
    parse "/A\n1/A\n2/A\n3/A\n4/A\n5/A\n6/A\n7/A\n8/A\n9/A\n" (no 7 0) ∷
    parse "0/A\n~" (no 6 1) ∷
    parse "0/A" (no 6 1) ∷
    parse "5/A\n~" (no 6 1) ∷
    parse "5/A" (no 6 1) ∷
    parse "1/A\n0/A\n~" (no 6 2) ∷
    parse "1/A\n0/A" (no 6 2) ∷
    parse "1/A\n5/A\n~" (no 6 2) ∷
    parse "1/A\n5/A" (no 6 2) ∷
    parse "1/A\n2/A\n0/A\n~" (no 6 3) ∷
    parse "1/A\n2/A\n0/A" (no 6 3) ∷
    parse "1/A\n2/A\n5/A\n~" (no 6 3) ∷
    parse "1/A\n2/A\n5/A" (no 6 3) ∷
    parse "1/A\n2/A\n3/A\n0/A\n~" (no 6 4) ∷
    parse "1/A\n2/A\n3/A\n0/A" (no 6 4) ∷
    parse "1/A\n2/A\n3/A\n5/A\n~" (no 6 4) ∷
    parse "1/A\n2/A\n3/A\n5/A" (no 6 4) ∷
    parse "1/A\n2/A\n3/A\n4/A\n0/A\n~" (no 6 5) ∷
    parse "1/A\n2/A\n3/A\n4/A\n0/A" (no 6 5) ∷
    parse "1/A\n2/A\n3/A\n4/A\n4/A\n~" (no 6 5) ∷
    parse "1/A\n2/A\n3/A\n4/A\n4/A" (no 6 5) ∷
    parse "1/A\n2/A\n3/A\n4/A\n5/A\n0/A\n~" (no 6 6) ∷
    parse "1/A\n2/A\n3/A\n4/A\n5/A\n0/A" (no 6 6) ∷
    parse "1/A\n2/A\n3/A\n4/A\n5/A\n4/A\n~" (no 6 6) ∷
    parse "1/A\n2/A\n3/A\n4/A\n5/A\n4/A" (no 6 6) ∷
    parse "1/A\n2/A\n3/A\n4/A\n5/A\n6/A\n0/A\n~" (no 6 7) ∷
    parse "1/A\n2/A\n3/A\n4/A\n5/A\n6/A\n0/A" (no 6 7) ∷
    parse "1/A\n2/A\n3/A\n4/A\n5/A\n6/A\n4/A\n~" (no 6 7) ∷
    parse "1/A\n2/A\n3/A\n4/A\n5/A\n6/A\n4/A" (no 6 7) ∷
    parse "1/A\n2/A\n3/A\n4/A\n5/A\n6/A\n7/A\n0/A\n~" (no 6 8) ∷
    parse "1/A\n2/A\n3/A\n4/A\n5/A\n6/A\n7/A\n0/A" (no 6 8) ∷
    parse "1/A\n2/A\n3/A\n4/A\n5/A\n6/A\n7/A\n4/A\n~" (no 6 8) ∷
    parse "1/A\n2/A\n3/A\n4/A\n5/A\n6/A\n7/A\n4/A" (no 6 8) ∷
    parse "1/A\n2/A\n3/A\n4/A\n5/A\n6/A\n7/A\n8/A\n0/A\n~" (no 6 9) ∷
    parse "1/A\n2/A\n3/A\n4/A\n5/A\n6/A\n7/A\n8/A\n0/A" (no 6 9) ∷
    parse "1/A\n2/A\n3/A\n4/A\n5/A\n6/A\n7/A\n8/A\n4/A\n~" (no 6 9) ∷
    parse "1/A\n2/A\n3/A\n4/A\n5/A\n6/A\n7/A\n8/A\n4/A" (no 6 9) ∷
    parse "1/A\n2/A\n3/A\n4/A\n5/A\n6/A\n7/A\n8/A\n9/A\n0/A\n~" (no 6 10) ∷
    parse "1/A\n2/A\n3/A\n4/A\n5/A\n6/A\n7/A\n8/A\n9/A\n0/A" (no 6 10) ∷
    parse "1/A\n2/A\n3/A\n4/A\n5/A\n6/A\n7/A\n8/A\n9/A\n4/A\n~" (no 6 10) ∷
    parse "1/A\n2/A\n3/A\n4/A\n5/A\n6/A\n7/A\n8/A\n9/A\n4/A" (no 6 10) ∷
    parse "/A\n1/A\n2/A\n3/A\n4/A\n5/A\n6/A\n7/A\n8/A\n9/A\n0/A\n~" (no 6 11) ∷
    parse "/A\n1/A\n2/A\n3/A\n4/A\n5/A\n6/A\n7/A\n8/A\n9/A\n0/A" (no 6 11) ∷
    parse "/A\n1/A\n2/A\n3/A\n4/A\n5/A\n6/A\n7/A\n8/A\n9/A\n4/A\n~" (no 6 11) ∷
    parse "/A\n1/A\n2/A\n3/A\n4/A\n5/A\n6/A\n7/A\n8/A\n9/A\n4/A" (no 6 11) ∷
    parse "/A" (no 7 0) ∷
    parse "1/A\n2/A\n3/A\n4/A\n5/A" (no 7 0) ∷
    parse "1/A\n2/A\n3/A\n4/A\n5/A\n6/A\n7/A\n8/A\n9/A" (no 7 0) ∷
    parse "/A\n1/A\n2/A\n3/A\n4/A\n5/A" (no 7 0) ∷
    parse "/\n1/A" (ok Field59F (some "") "" ("1/A" ∷ []) ":59F:/\n\n1/A") ∷
    parse "/A\n1/A" (ok Field59F (some "A") "" ("1/A" ∷ []) ":59F:/A\n\n1/A") ∷
    parse "/ABCDEFGHIJKLMNOPQRSTUVWXYZ0123456\n1/A" (ok Field59F (some "ABCDEFGHIJKLMNOPQRSTUVWXYZ0123456") "" ("1/A" ∷ []) ":59F:/ABCDEFGHIJKLMNOPQRSTUVWXYZ0123456\n\n1/A") ∷
    parse "/ABCDEFGHIJKLMNOPQRSTUVWXYZ01234567\n1/A" (ok Field59F (some "ABCDEFGHIJKLMNOPQRSTUVWXYZ01234567") "" ("1/A" ∷ []) ":59F:/ABCDEFGHIJKLMNOPQRSTUVWXYZ01234567\n\n1/A") ∷
    parse "/ABCDEFGHIJKLMNOPQRSTUVWXYZ012345678\n1/A" (no 2 1) ∷
    parse "/ABCDEFGHIJKLMNOPQRSTUVWXYZ0123456789\n1/A" (no 2 1) ∷
    parse "//A\n1/A" (ok Field59F (some "/A") "" ("1/A" ∷ []) ":59F://A\n\n1/A") ∷
    parse "//ABCDEFGHIJKLMNOPQRSTUVWXYZ0123456\n1/A" (ok Field59F (some "/ABCDEFGHIJKLMNOPQRSTUVWXYZ0123456") "" ("1/A" ∷ []) ":59F://ABCDEFGHIJKLMNOPQRSTUVWXYZ0123456\n\n1/A") ∷
    parse "//ABCDEFGHIJKLMNOPQRSTUVWXYZ01234567\n1/A" (ok Field59F (some "/ABCDEFGHIJKLMNOPQRSTUVWXYZ01234567") "" ("1/A" ∷ []) ":59F://ABCDEFGHIJKLMNOPQRSTUVWXYZ01234567\n\n1/A") ∷
    parse "//ABCDEFGHIJKLMNOPQRSTUVWXYZ012345678\n1/A" (no 2 1) ∷
    parse "//ABCDEFGHIJKLMNOPQRSTUVWXYZ0123456789\n1/A" (no 2 1) ∷
    parse "/A/\n1/A" (ok Field59F (some "A/") "" ("1/A" ∷ []) ":59F:/A/\n\n1/A") ∷
    parse "/A/A\n1/A" (ok Field59F (some "A/A") "" ("1/A" ∷ []) ":59F:/A/A\n\n1/A") ∷
    parse "/A/ABCDEFGHIJKLMNOPQRSTUVWXYZ0123456\n1/A" (ok Field59F (some "A/ABCDEFGHIJKLMNOPQRSTUVWXYZ0123456") "" ("1/A" ∷ []) ":59F:/A/ABCDEFGHIJKLMNOPQRSTUVWXYZ0123456\n\n1/A") ∷
    parse "/A/ABCDEFGHIJKLMNOPQRSTUVWXYZ01234567\n1/A" (ok Field59F (some "A/ABCDEFGHIJKLMNOPQRSTUVWXYZ01234567") "" ("1/A" ∷ []) ":59F:/A/ABCDEFGHIJKLMNOPQRSTUVWXYZ01234567\n\n1/A") ∷
    parse "/A/ABCDEFGHIJKLMNOPQRSTUVWXYZ012345678\n1/A" (no 2 1) ∷
    parse "/A/ABCDEFGHIJKLMNOPQRSTUVWXYZ0123456789\n1/A" (no 2 1) ∷
    parse "/1/\n1/A" (ok Field59F (some "1/") "" ("1/A" ∷ []) ":59F:/1/\n\n1/A") ∷
    parse "/1/A\n1/A" (ok Field59F (some "1/A") "" ("1/A" ∷ []) ":59F:/1/A\n\n1/A") ∷
    parse "/1/ABCDEFGHIJKLMNOPQRSTUVWXYZ0123456\n1/A" (ok Field59F (some "1/ABCDEFGHIJKLMNOPQRSTUVWXYZ0123456") "" ("1/A" ∷ []) ":59F:/1/ABCDEFGHIJKLMNOPQRSTUVWXYZ0123456\n\n1/A") ∷
    parse "/1/ABCDEFGHIJKLMNOPQRSTUVWXYZ01234567\n1/A" (ok Field59F (some "1/ABCDEFGHIJKLMNOPQRSTUVWXYZ01234567") "" ("1/A" ∷ []) ":59F:/1/ABCDEFGHIJKLMNOPQRSTUVWXYZ01234567\n\n1/A") ∷
    parse "/1/ABCDEFGHIJKLMNOPQRSTUVWXYZ012345678\n1/A" (no 2 1) ∷
    parse "/1/ABCDEFGHIJKLMNOPQRSTUVWXYZ0123456789\n1/A" (no 2 1) ∷
    parse "/A1/\n1/A" (ok Field59F (some "A1/") "" ("1/A" ∷ []) ":59F:/A1/\n\n1/A") ∷
    parse "/A1/A\n1/A" (ok Field59F (some "A1/A") "" ("1/A" ∷ []) ":59F:/A1/A\n\n1/A") ∷
    parse "/A1/ABCDEFGHIJKLMNOPQRSTUVWXYZ0123456\n1/A" (ok Field59F (some "A1/ABCDEFGHIJKLMNOPQRSTUVWXYZ0123456") "" ("1/A" ∷ []) ":59F:/A1/ABCDEFGHIJKLMNOPQRSTUVWXYZ0123456\n\n1/A") ∷
    parse "/A1/ABCDEFGHIJKLMNOPQRSTUVWXYZ01234567\n1/A" (ok Field59F (some "A1/ABCDEFGHIJKLMNOPQRSTUVWXYZ01234567") "" ("1/A" ∷ []) ":59F:/A1/ABCDEFGHIJKLMNOPQRSTUVWXYZ01234567\n\n1/A") ∷
    parse "/A1/ABCDEFGHIJKLMNOPQRSTUVWXYZ012345678\n1/A" (no 2 1) ∷
    parse "/A1/ABCDEFGHIJKLMNOPQRSTUVWXYZ0123456789\n1/A" (no 2 1) ∷
    parse "/12/\n1/A" (ok Field59F (some "12/") "" ("1/A" ∷ []) ":59F:/12/\n\n1/A") ∷
    parse "/12/A\n1/A" (ok Field59F (some "12/A") "" ("1/A" ∷ []) ":59F:/12/A\n\n1/A") ∷
    parse "/12/ABCDEFGHIJKLMNOPQRSTUVWXYZ0123456\n1/A" (ok Field59F (some "12/ABCDEFGHIJKLMNOPQRSTUVWXYZ0123456") "" ("1/A" ∷ []) ":59F:/12/ABCDEFGHIJKLMNOPQRSTUVWXYZ0123456\n\n1/A") ∷
    parse "/12/ABCDEFGHIJKLMNOPQRSTUVWXYZ01234567\n1/A" (ok Field59F (some "12/ABCDEFGHIJKLMNOPQRSTUVWXYZ01234567") "" ("1/A" ∷ []) ":59F:/12/ABCDEFGHIJKLMNOPQRSTUVWXYZ01234567\n\n1/A") ∷
    parse "/12/ABCDEFGHIJKLMNOPQRSTUVWXYZ012345678\n1/A" (no 2 1) ∷
    parse "/12/ABCDEFGHIJKLMNOPQRSTUVWXYZ0123456789\n1/A" (no 2 1) ∷
    parse "/A/1\n1/A" (ok Field59F (some "A/1") "" ("1/A" ∷ []) ":59F:/A/1\n\n1/A") ∷
    parse "/AB/1\n1/A" (ok Field59F (some "AB/1") "" ("1/A" ∷ []) ":59F:/AB/1\n\n1/A") ∷
    parse "/ABCD/1\n1/A" (no 2 1) ∷
    parse "1/A" (ok Field59F none "" ("1/A" ∷ []) ":59F:1/A") ∷
    parse "1/A\n2/A" (ok Field59F none "" ("1/A" ∷ "2/A" ∷ []) ":59F:1/A\n2/A") ∷
    parse "1/A\n2/A\n3/A" (ok Field59F none "" ("1/A" ∷ "2/A" ∷ "3/A" ∷ []) ":59F:1/A\n2/A\n3/A") ∷
    parse "1/A\n2/A\n3/A\n4/A" (ok Field59F none "" ("1/A" ∷ "2/A" ∷ "3/A" ∷ "4/A" ∷ []) ":59F:1/A\n2/A\n3/A\n4/A") ∷
    parse "1/A\n2/A\n3/A\n4/A\n5/A\n6/A" (no 7 0) ∷
    parse "1/A\n2/A\n3/A\n4/A\n5/A\n6/A\n7/A\n8/A\n9/A\n0/A\n1/A" (no 6 10) ∷
    parse "1/" (ok Field59F none "" ("1/" ∷ []) ":59F:1/") ∷
    parse "1/ABCDEFGHIJKLMNOPQRSTUVWXYZ012345" (ok Field59F none "" ("1/ABCDEFGHIJKLMNOPQRSTUVWXYZ012345" ∷ []) ":59F:1/ABCDEFGHIJKLMNOPQRSTUVWXYZ012345") ∷
    parse "1/ABCDEFGHIJKLMNOPQRSTUVWXYZ0123456" (ok Field59F none "" ("1/ABCDEFGHIJKLMNOPQRSTUVWXYZ0123456" ∷ []) ":59F:1/ABCDEFGHIJKLMNOPQRSTUVWXYZ0123456") ∷
    parse "1/A\n2/A\n3/A\n4/" (ok Field59F none "" ("1/A" ∷ "2/A" ∷ "3/A" ∷ "4/" ∷ []) ":59F:1/A\n2/A\n3/A\n4/") ∷
    parse "1/A\n2/A\n3/A\n4/ABCDEFGHIJKLMNOPQRSTUVWXYZ012345" (ok Field59F none "" ("1/A" ∷ "2/A" ∷ "3/A" ∷ "4/ABCDEFGHIJKLMNOPQRSTUVWXYZ012345" ∷ []) ":59F:1/A\n2/A\n3/A\n4/ABCDEFGHIJKLMNOPQRSTUVWXYZ012345") ∷
    parse "1/A\n2/A\n3/A\n4/ABCDEFGHIJKLMNOPQRSTUVWXYZ0123456" (ok Field59F none "" ("1/A" ∷ "2/A" ∷ "3/A" ∷ "4/ABCDEFGHIJKLMNOPQRSTUVWXYZ0123456" ∷ []) ":59F:1/A\n2/A\n3/A\n4/ABCDEFGHIJKLMNOPQRSTUVWXYZ0123456") ∷
    parse "/A\n" (no 7 0) ∷
    parse "/A\n1/A\n2/A" (ok Field59F (some "A") "" ("1/A" ∷ "2/A" ∷ []) ":59F:/A\n\n1/A\n2/A") ∷
    parse "/A\n1/A\n2/A\n3/A" (ok Field59F (some "A") "" ("1/A" ∷ "2/A" ∷ "3/A" ∷ []) ":59F:/A\n\n1/A\n2/A\n3/A") ∷
    parse "/A\n1/A\n2/A\n3/A\n4/A" (ok Field59F (some "A") "" ("1/A" ∷ "2/A" ∷ "3/A" ∷ "4/A" ∷ []) ":59F:/A\n\n1/A\n2/A\n3/A\n4/A") ∷
    parse "/A\n1/A\n2/A\n3/A\n4/A\n5/A\n6/A" (no 7 0) ∷
    parse "/A\n1/A\n2/A\n3/A\n4/A\n5/A\n6/A\n7/A\n8/A\n9/A" (no 7 0) ∷
    parse "/A\n1/A\n2/A\n3/A\n4/A\n5/A\n6/A\n7/A\n8/A\n9/A\n0/A\n1/A" (no 6 11) ∷
    parse "/A\n1/" (ok Field59F (some "A") "" ("1/" ∷ []) ":59F:/A\n\n1/") ∷
    parse "/A\n1/ABCDEFGHIJKLMNOPQRSTUVWXYZ012345" (ok Field59F (some "A") "" ("1/ABCDEFGHIJKLMNOPQRSTUVWXYZ012345" ∷ []) ":59F:/A\n\n1/ABCDEFGHIJKLMNOPQRSTUVWXYZ012345") ∷
    parse "/A\n1/ABCDEFGHIJKLMNOPQRSTUVWXYZ0123456" (ok Field59F (some "A") "" ("1/ABCDEFGHIJKLMNOPQRSTUVWXYZ0123456" ∷ []) ":59F:/A\n\n1/ABCDEFGHIJKLMNOPQRSTUVWXYZ0123456") ∷
    parse "/A\n1/A\n2/A\n3/A\n4/" (ok Field59F (some "A") "" ("1/A" ∷ "2/A" ∷ "3/A" ∷ "4/" ∷ []) ":59F:/A\n\n1/A\n2/A\n3/A\n4/") ∷
    parse "/A\n1/A\n2/A\n3/A\n4/ABCDEFGHIJKLMNOPQRSTUVWXYZ012345" (ok Field59F (some "A") "" ("1/A" ∷ "2/A" ∷ "3/A" ∷ "4/ABCDEFGHIJKLMNOPQRSTUVWXYZ012345" ∷ []) ":59F:/A\n\n1/A\n2/A\n3/A\n4/ABCDEFGHIJKLMNOPQRSTUVWXYZ012345") ∷
    parse "/A\n1/A\n2/A\n3/A\n4/ABCDEFGHIJKLMNOPQRSTUVWXYZ0123456" (ok Field59F (some "A") "" ("1/A" ∷ "2/A" ∷ "3/A" ∷ "4/ABCDEFGHIJKLMNOPQRSTUVWXYZ0123456" ∷ []) ":59F:/A\n\n1/A\n2/A\n3/A\n4/ABCDEFGHIJKLMNOPQRSTUVWXYZ0123456") ∷
    parse "\r1/A\n2/B" (no 5 1) ∷
    parse "1\r/A\n2/B" (no 5 1) ∷
    parse "1/\rA\n2/B" (ok Field59F none "" ("1/\rA" ∷ "2/B" ∷ []) ":59F:1/\rA\n2/B") ∷
    parse "1/A\r\n2/B" (ok Field59F none "" ("1/A" ∷ "2/B" ∷ []) ":59F:1/A\n2/B") ∷
    parse "1/A\n\r2/B" (no 5 2) ∷
    parse "1/A\n2\r/B" (no 5 2) ∷
    parse "1/A\n2/\rB" (ok Field59F none "" ("1/A" ∷ "2/\rB" ∷ []) ":59F:1/A\n2/\rB") ∷
    parse "1/A\n2/B\r" (ok Field59F none "" ("1/A" ∷ "2/B\r" ∷ []) ":59F:1/A\n2/B\r") ∷
    parse "\n1/A\n2/B" (no 5 1) ∷
    parse "1\n/A\n2/B" (no 5 1) ∷
    parse "1/\nA\n2/B" (no 5 2) ∷
    parse "1/A\n\n2/B" (no 5 2) ∷
    parse "1/A\n2\n/B" (no 5 2) ∷
    parse "1/A\n2/\nB" (no 5 3) ∷
    parse "1/A\n2/B\n" (ok Field59F none "" ("1/A" ∷ "2/B" ∷ []) ":59F:1/A\n2/B") ∷
    parse "\r\n1/A\n2/B" (no 5 1) ∷
    parse "1\r\n/A\n2/B" (no 5 1) ∷
    parse "1/\r\nA\n2/B" (no 5 2) ∷
    parse "1/A\r\n\n2/B" (no 5 2) ∷
    parse "1/A\n\r\n2/B" (no 5 2) ∷
    parse "1/A\n2\r\n/B" (no 5 2) ∷
    parse "1/A\n2/\r\nB" (no 5 3) ∷
    parse "1/A\n2/B\r\n" (ok Field59F none "" ("1/A" ∷ "2/B" ∷ []) ":59F:1/A\n2/B") ∷
    parse "\r/A\n2/B" (no 5 1) ∷
    parse "1\rA\n2/B" (no 5 1) ∷
    parse "1/\r\n2/B" (ok Field59F none "" ("1/" ∷ "2/B" ∷ []) ":59F:1/\n2/B") ∷
    parse "1/A\r2/B" (ok Field59F none "" ("1/A\r2/B" ∷ []) ":59F:1/A\r2/B") ∷
    parse "1/A\n\r/B" (no 5 2) ∷
    parse "1/A\n2\rB" (no 5 2) ∷
    parse "1/A\n2/\r" (ok Field59F none "" ("1/A" ∷ "2/\r" ∷ []) ":59F:1/A\n2/\r") ∷
    parse "\n/A\n2/B" (no 5 1) ∷
    parse "1\nA\n2/B" (no 5 1) ∷
    parse "1/\n\n2/B" (no 5 2) ∷
    parse "1/A\n2/B" (ok Field59F none "" ("1/A" ∷ "2/B" ∷ []) ":59F:1/A\n2/B") ∷
    parse "1/A\n\n/B" (no 5 2) ∷
    parse "1/A\n2\nB" (no 5 2) ∷
    parse "1/A\n2/\n" (ok Field59F none "" ("1/A" ∷ "2/" ∷ []) ":59F:1/A\n2/") ∷
    parse "\r/1\n1/A" (no 5 1) ∷
    parse "/\r1\n1/A" (ok Field59F (some "\r1") "" ("1/A" ∷ []) ":59F:/\r1\n\n1/A") ∷
    parse "/1\r\n1/A" (ok Field59F (some "1") "" ("1/A" ∷ []) ":59F:/1\n\n1/A") ∷
    parse "/1\n\r1/A" (no 5 2) ∷
    parse "/1\n1\r/A" (no 5 2) ∷
    parse "/1\n1/\rA" (ok Field59F (some "1") "" ("1/\rA" ∷ []) ":59F:/1\n\n1/\rA") ∷
    parse "/1\n1/A\r" (ok Field59F (some "1") "" ("1/A\r" ∷ []) ":59F:/1\n\n1/A\r") ∷
    parse "\n/1\n1/A" (no 5 1) ∷
    parse "/\n1\n1/A" (no 5 2) ∷
    parse "/1\n1\n/A" (no 5 2) ∷
    parse "/1\n1/\nA" (no 5 3) ∷
    parse "/1\n1/A\n" (ok Field59F (some "1") "" ("1/A" ∷ []) ":59F:/1\n\n1/A") ∷
    parse "\r\n/1\n1/A" (no 5 1) ∷
    parse "/\r\n1\n1/A" (no 5 2) ∷
    parse "/1\r\n\n1/A" (no 5 2) ∷
    parse "/1\n\r\n1/A" (no 5 2) ∷
    parse "/1\n1\r\n/A" (no 5 2) ∷
    parse "/1\n1/\r\nA" (no 5 3) ∷
    parse "/1\n1/A\r\n" (ok Field59F (some "1") "" ("1/A" ∷ []) ":59F:/1\n\n1/A") ∷
    parse "\r1\n1/A" (no 5 1) ∷
    parse "/\r\n1/A" (ok Field59F (some "") "" ("1/A" ∷ []) ":59F:/\n\n1/A") ∷
    parse "/1\r1/A" (no 2 1) ∷
    parse "/1\n\r/A" (no 5 2) ∷
    parse "/1\n1\rA" (no 5 2) ∷
    parse "/1\n1/\r" (ok Field59F (some "1") "" ("1/\r" ∷ []) ":59F:/1\n\n1/\r") ∷
    parse "\n1\n1/A" (no 5 1) ∷
    parse "/\n\n1/A" (no 5 2) ∷
    parse "/1\n\n/A" (no 5 2) ∷
    parse "/1\n1\nA" (no 5 2) ∷
    parse "/1\n1/\n" (ok Field59F (some "1") "" ("1/" ∷ []) ":59F:/1\n\n1/") ∷
    parse "\0/A" (no 5 1) ∷
    parse "\u{1}/A" (no 5 1) ∷
    parse "\u{2}/A" (no 5 1) ∷
    parse "\u{3}/A" (no 5 1) ∷
    parse "\u{4}/A" (no 5 1) ∷
    parse "\u{5}/A" (no 5 1) ∷
    parse "\u{6}/A" (no 5 1) ∷
    parse "\u{7}/A" (no 5 1) ∷
    parse "\u{8}/A" (no 5 1) ∷
    parse "\t/A" (no 5 1) ∷
    parse "\n/A" (no 5 1) ∷
    parse "\u{b}/A" (no 5 1) ∷
    parse "\u{c}/A" (no 5 1) ∷
    parse "\r/A" (no 5 1) ∷
    parse "\u{e}/A" (no 5 1) ∷
    parse "\u{f}/A" (no 5 1) ∷
    parse "\u{10}/A" (no 5 1) ∷
    parse "\u{11}/A" (no 5 1) ∷
    parse "\u{12}/A" (no 5 1) ∷
    parse "\u{13}/A" (no 5 1) ∷
    parse "\u{14}/A" (no 5 1) ∷
    parse "\u{15}/A" (no 5 1) ∷
    parse "\u{16}/A" (no 5 1) ∷
    parse "\u{17}/A" (no 5 1) ∷
    parse "\u{18}/A" (no 5 1) ∷
    parse "\u{19}/A" (no 5 1) ∷
    parse "\u{1a}/A" (no 5 1) ∷
    parse "\u{1b}/A" (no 5 1) ∷
    parse "\u{1c}/A" (no 5 1) ∷
    parse "\u{1d}/A" (no 5 1) ∷
    parse "\u{1e}/A" (no 5 1) ∷
    parse "\u{1f}/A" (no 5 1) ∷
    parse " /A" (no 5 1) ∷
    parse "!/A" (no 5 1) ∷
    parse "\"/A" (no 5 1) ∷
    parse "#/A" (no 5 1) ∷
    parse "$/A" (no 5 1) ∷
    parse "%/A" (no 5 1) ∷
    parse "&/A" (no 5 1) ∷
    parse "'/A" (no 5 1) ∷
    parse "(/A" (no 5 1) ∷
    parse ")/A" (no 5 1) ∷
    parse "*/A" (no 5 1) ∷
    parse "+/A" (no 5 1) ∷
    parse ",/A" (no 5 1) ∷
    parse "-/A" (no 5 1) ∷
    parse "./A" (no 5 1) ∷
    parse "//A" (no 7 0) ∷
    parse "3/A" (no 6 1) ∷
    parse "4/A" (no 6 1) ∷
    parse "6/A" (no 6 1) ∷
    parse "7/A" (no 6 1) ∷
    parse "8/A" (no 6 1) ∷
    parse "9/A" (no 6 1) ∷
    parse ":/A" (no 5 1) ∷
    parse ";/A" (no 5 1) ∷
    parse "</A" (no 5 1) ∷
    parse "=/A" (no 5 1) ∷
    parse ">/A" (no 5 1) ∷
    parse "?/A" (no 5 1) ∷
    parse "@/A" (no 5 1) ∷
    parse "A/A" (no 5 1) ∷
    parse "B/A" (no 5 1) ∷
    parse "C/A" (no 5 1) ∷
    parse "D/A" (no 5 1) ∷
    parse "E/A" (no 5 1) ∷
    parse "F/A" (no 5 1) ∷
    parse "G/A" (no 5 1) ∷
    parse "H/A" (no 5 1) ∷
    parse "I/A" (no 5 1) ∷
    parse "J/A" (no 5 1) ∷
    parse "K/A" (no 5 1) ∷
    parse "L/A" (no 5 1) ∷
    parse "M/A" (no 5 1) ∷
    parse "N/A" (no 5 1) ∷
    parse "O/A" (no 5 1) ∷
    parse "P/A" (no 5 1) ∷
    parse "Q/A" (no 5 1) ∷
    parse "R/A" (no 5 1) ∷
    parse "S/A" (no 5 1) ∷
    parse "T/A" (no 5 1) ∷
    parse "U/A" (no 5 1) ∷
    parse "V/A" (no 5 1) ∷
    parse "W/A" (no 5 1) ∷
    parse "X/A" (no 5 1) ∷
    parse "Y/A" (no 5 1) ∷
    parse "Z/A" (no 5 1) ∷
    parse "[/A" (no 5 1) ∷
    parse "\\/A" (no 5 1) ∷
    parse "]/A" (no 5 1) ∷
    parse "^/A" (no 5 1) ∷
    parse "_/A" (no 5 1) ∷
    parse "`/A" (no 5 1) ∷
    parse "a/A" (no 5 1) ∷
    parse "b/A" (no 5 1) ∷
    parse "c/A" (no 5 1) ∷
    parse "d/A" (no 5 1) ∷
    parse "e/A" (no 5 1) ∷
    parse "f/A" (no 5 1) ∷
    parse "g/A" (no 5 1) ∷
    parse "h/A" (no 5 1) ∷
    parse "i/A" (no 5 1) ∷
    parse "j/A" (no 5 1) ∷
    parse "k/A" (no 5 1) ∷
    parse "l/A" (no 5 1) ∷
    parse "m/A" (no 5 1) ∷
    parse "n/A" (no 5 1) ∷
    parse "o/A" (no 5 1) ∷
    parse "p/A" (no 5 1) ∷
    parse "q/A" (no 5 1) ∷
    parse "r/A" (no 5 1) ∷
    parse "s/A" (no 5 1) ∷
    parse "t/A" (no 5 1) ∷
    parse "u/A" (no 5 1) ∷
    parse "v/A" (no 5 1) ∷
    parse "w/A" (no 5 1) ∷
    parse "x/A" (no 5 1) ∷
    parse "y/A" (no 5 1) ∷
    parse "z/A" (no 5 1) ∷
    parse "{/A" (no 5 1) ∷
    parse "|/A" (no 5 1) ∷
    parse "}/A" (no 5 1) ∷
    parse "~/A" (no 5 1) ∷
    parse "\u{7f}/A" (no 5 1) ∷
    parse "\01\n1/A" (no 5 1) ∷
    parse " 1\n1/A" (no 5 1) ∷
    parse "@1\n1/A" (no 5 1) ∷
    parse "[1\n1/A" (no 5 1) ∷
    parse "z1\n1/A" (no 5 1) ∷
    parse "~1\n1/A" (no 5 1) ∷
    parse "/\t\n1/A" (no 3 1) ∷
    parse "/!\n1/A" (ok Field59F (some "!") "" ("1/A" ∷ []) ":59F:/!\n\n1/A") ∷
    parse "/0\n1/A" (ok Field59F (some "0") "" ("1/A" ∷ []) ":59F:/0\n\n1/A") ∷
    parse "/Z\n1/A" (ok Field59F (some "Z") "" ("1/A" ∷ []) ":59F:/Z\n\n1/A") ∷
    parse "/a\n1/A" (ok Field59F (some "a") "" ("1/A" ∷ []) ":59F:/a\n\n1/A") ∷
    parse "/{\n1/A" (ok Field59F (some "{") "" ("1/A" ∷ []) ":59F:/{\n\n1/A") ∷
    parse "/1\01/A" (no 2 1) ∷
    parse "/1 1/A" (no 2 1) ∷
    parse "/1/1/A" (no 7 0) ∷
    parse "/1@1/A" (no 2 1) ∷
    parse "/1[1/A" (no 2 1) ∷
    parse "/1z1/A" (no 2 1) ∷
    parse "/1~1/A" (no 2 1) ∷
    parse "/1\n\t/A" (no 5 2) ∷
    parse "/1\n!/A" (no 5 2) ∷
    parse "/1\n0/A" (no 6 2) ∷
    parse "/1\nZ/A" (no 5 2) ∷
    parse "/1\na/A" (no 5 2) ∷
    parse "/1\n{/A" (no 5 2) ∷
    parse "/1\n1\0A" (no 5 2) ∷
    parse "/1\n1 A" (no 5 2) ∷
    parse "/1\n1@A" (no 5 2) ∷
    parse "/1\n1[A" (no 5 2) ∷
    parse "/1\n1zA" (no 5 2) ∷
    parse "/1\n1~A" (no 5 2) ∷
    parse "/1\n1/\t" (no 3 2) ∷
    parse "/1\n1/!" (ok Field59F (some "1") "" ("1/!" ∷ []) ":59F:/1\n\n1/!") ∷
    parse "/1\n1/0" (ok Field59F (some "1") "" ("1/0" ∷ []) ":59F:/1\n\n1/0") ∷
    parse "/1\n1/Z" (ok Field59F (some "1") "" ("1/Z" ∷ []) ":59F:/1\n\n1/Z") ∷
    parse "/1\n1/a" (ok Field59F (some "1") "" ("1/a" ∷ []) ":59F:/1\n\n1/a") ∷
    parse "/1\n1/{" (ok Field59F (some "1") "" ("1/{" ∷ []) ":59F:/1\n\n1/{") ∷
    parse "\01/A\n2/B" (no 5 1) ∷
    parse "1/JOHN 0SMITH\n2/AVE" (ok Field59F none "" ("1/JOHN 0SMITH" ∷ "2/AVE" ∷ []) ":59F:1/JOHN 0SMITH\n2/AVE") ∷
    parse "1/A\n-2/B" (no 5 2) ∷
    parse "//CH123456\r\n1/<A)=\r\n2/{B?" (ok Field59F (some "/CH123456") "" ("1/<A)=" ∷ "2/{B?" ∷ []) ":59F://CH123456\n\n1/<A)=\n2/{B?") ∷
    parse "/A/ABCDEFGHIJKLMNOPQR/T-UVWXYZ01234567\n1/A" (no 2 1) ∷
    parse "1A\n2/B" (no 5 1) ∷
    parse "//ABCDEFGHIJKLMNOPQRSTUVWXYZ012345678\n1/Z\r0/;+[8\n/,;#X\n" (no 2 1) ∷
    parse "1/;@Y!Z}\r\n2//]{_\r^" (no 3 2) ∷
    parse " deutdeff\r\n ABCDEF123AZ" (no 5 1) ∷
    parse "1/z-=>\n2/}\n3/[./Y\n" (ok Field59F none "" ("1/z-=>" ∷ "2/}" ∷ "3/[./Y" ∷ []) ":59F:1/z-=>\n2/}\n3/[./Y") ∷
    parse "//[?b\n" (no 7 0) ∷
    parse "z1" (no 5 1) ∷
    parse "1/=aCz*<\r\n2/'\r\n3/ABCDEFGHIJKLMNOP,QRS9TUVWXYZ0123456" (no 4 3) ∷
    parse "1" (no 5 1) ∷
    parse "0/z<\n\rDEUTDEFF500\n" (no 6 1) ∷
    parse "ABCDEF123AZ\r\n/1C]@9\r\nABCDEFGHIJ\n AbCdEf12\nABCDEFG\n/ABCDEFGHIJKLMNOPQRSTUVWXYZ01234567\n//CY!CB" (no 5 1) ∷
    parse "ABCDEFGHIJK\r\nX" (no 5 1) ∷
    parse "/A\n1P/1\u{7f}" (no 5 2) ∷
    parse "//CH12356\n1AZ]B\n" (no 5 2) ∷
    parse "1/A\n2/A\n3/A\n4/ABCDEFGHI JKLMNOPQRSTUVWXYZ0123456" (no 4 4) ∷
    parse "1\r/" (no 5 1) ∷
    parse "1/(<)\"\n2/ABCDEFGHIJKLMNOPQRSTUVWXYZ012345\n3/x\n4/b=" (ok Field59F none "" ("1/(<)\"" ∷ "2/ABCDEFGHIJKLMNOPQRSTUVWXYZ012345" ∷ "3/x" ∷ "4/b=" ∷ []) ":59F:1/(<)\"\n2/ABCDEFGHIJKLMNOPQRSTUVWXYZ012345\n3/x\n4/b=") ∷
    parse ":1//2/?\n" (no 5 1) ∷
    []

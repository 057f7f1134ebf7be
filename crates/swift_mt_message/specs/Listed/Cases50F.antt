-- Made of crates/replay/stdin by tests/rust/listed: the cases of 50F.
use Rattle.std.specs.Prelude.{List, [], ◌∷◌}
use Rattle.std.proofs.Math.Option.{some}
use Rattle.party.specs.declared.PartyOption.TheVariants.{Field50F}
use Rattle.swift_mt_message.specs.Cases.{Case, parse, ok, no}

abbrev pub cases : List Case
cases =
    parse "X\n7/A\n7/B" (ok Field50F (some "X") "" ("A" ∷ "B" ∷ []) ":50F:X\n1/A\n2/B") ∷
    parse "/1\n0/A" (ok Field50F (some "/1") "" ("A" ∷ []) ":50F:/1\n1/A") ∷
    parse "/1\n2/A\n1/B" (ok Field50F (some "/1") "" ("A" ∷ "B" ∷ []) ":50F:/1\n1/A\n2/B") ∷
    parse "X\n1/A" (ok Field50F (some "X") "" ("A" ∷ []) ":50F:X\n1/A") ∷
    parse "" (no 1 0) ∷
    parse "X" (no 1 0) ∷
    parse "X\n" (no 1 0) ∷
    parse "~" (no 1 0) ∷
    parse "\n1/A" (no 2 1) ∷
    parse "ABCDEFGHIJKLMNOPQRSTUVWXYZ0123456789\n1/A" (no 2 1) ∷
    parse "ABCDEFGHIJKLMNOPQRSTUVWXYZ0123456789~\nA" (no 2 1) ∷
    parse "~\n1/A\n~" (no 3 1) ∷
    parse "~\n1/A" (no 3 1) ∷
    parse "A~\n1/A\n~" (no 3 1) ∷
    parse "A~\n1/A" (no 3 1) ∷
    parse "X\n3/~\n~" (no 3 2) ∷
    parse "X\n3/~" (no 3 2) ∷
    parse "X\n3/A^\n~" (no 3 2) ∷
    parse "X\n3/A^" (no 3 2) ∷
    parse "X\n2/A\n3/~\n~" (no 3 3) ∷
    parse "X\n2/A\n3/~" (no 3 3) ∷
    parse "X\n2/A\n3/A^\n~" (no 3 3) ∷
    parse "X\n2/A\n3/A^" (no 3 3) ∷
    parse "X\n2/A\n3/A\n3/~\n~" (no 3 4) ∷
    parse "X\n2/A\n3/A\n3/~" (no 3 4) ∷
    parse "X\n2/A\n3/A\n3/A^\n~" (no 3 4) ∷
    parse "X\n2/A\n3/A\n3/A^" (no 3 4) ∷
    parse "X\n2/A\n3/A\n4/A\n3/~\n~" (no 3 5) ∷
    parse "X\n2/A\n3/A\n4/A\n3/~" (no 3 5) ∷
    parse "X\n2/A\n3/A\n4/A\n3/A^\n~" (no 3 5) ∷
    parse "X\n2/A\n3/A\n4/A\n3/A^" (no 3 5) ∷
    parse "X\n2/A\n3/A\n4/A\n5/A\n3/~\n~" (no 3 6) ∷
    parse "X\n2/A\n3/A\n4/A\n5/A\n3/~" (no 3 6) ∷
    parse "X\n2/A\n3/A\n4/A\n5/A\n3/A^\n~" (no 3 6) ∷
    parse "X\n2/A\n3/A\n4/A\n5/A\n3/A^" (no 3 6) ∷
    parse "X\n2/A\n3/A\n4/A\n5/A\n6/A\n3/~\n~" (no 3 7) ∷
    parse "X\n2/A\n3/A\n4/A\n5/A\n6/A\n3/~" (no 3 7) ∷
    parse "X\n2/A\n3/A\n4/A\n5/A\n6/A\n3/A^\n~" (no 3 7) ∷
    parse "X\n2/A\n3/A\n4/A\n5/A\n6/A\n3/A^" (no 3 7) ∷
    parse "X\n2/A\n3/A\n4/A\n5/A\n6/A\n7/A\n3/~\n~" (no 3 8) ∷
    parse "X\n2/A\n3/A\n4/A\n5/A\n6/A\n7/A\n3/~" (no 3 8) ∷
    parse "X\n2/A\n3/A\n4/A\n5/A\n6/A\n7/A\n3/A^\n~" (no 3 8) ∷
    parse "X\n2/A\n3/A\n4/A\n5/A\n6/A\n7/A\n3/A^" (no 3 8) ∷
    parse "X\n2/A\n3/A\n4/A\n5/A\n6/A\n7/A\n8/A\n3/~\n~" (no 3 9) ∷
    parse "X\n2/A\n3/A\n4/A\n5/A\n6/A\n7/A\n8/A\n3/~" (no 3 9) ∷
    parse "X\n2/A\n3/A\n4/A\n5/A\n6/A\n7/A\n8/A\n3/A^\n~" (no 3 9) ∷
    parse "X\n2/A\n3/A\n4/A\n5/A\n6/A\n7/A\n8/A\n3/A^" (no 3 9) ∷
    parse "X\n2/A\n3/A\n4/A\n5/A\n6/A\n7/A\n8/A\n9/A\n3/~\n~" (no 3 10) ∷
    parse "X\n2/A\n3/A\n4/A\n5/A\n6/A\n7/A\n8/A\n9/A\n3/~" (no 3 10) ∷
    parse "X\n2/A\n3/A\n4/A\n5/A\n6/A\n7/A\n8/A\n9/A\n3/A^\n~" (no 3 10) ∷
    parse "X\n2/A\n3/A\n4/A\n5/A\n6/A\n7/A\n8/A\n9/A\n3/A^" (no 3 10) ∷
    parse "X\n2/A\n3/A\n4/A\n5/A\n6/A\n7/A\n8/A\n9/A\n0/A\n3/~\n~" (no 3 11) ∷
    parse "X\n2/A\n3/A\n4/A\n5/A\n6/A\n7/A\n8/A\n9/A\n0/A\n3/~" (no 3 11) ∷
    parse "X\n2/A\n3/A\n4/A\n5/A\n6/A\n7/A\n8/A\n9/A\n0/A\n3/A^\n~" (no 3 11) ∷
    parse "X\n2/A\n3/A\n4/A\n5/A\n6/A\n7/A\n8/A\n9/A\n0/A\n3/A^" (no 3 11) ∷
    parse "X\n2/A\n3/A\n4/A\n5/A\n6/A\n7/A\n8/A\n9/A\n0/A\n1/A\n2/A\n3/A\n4/A\n5/A\n6/A\n7/A\n8/A\n9/A\n0/A\n1/A\n2/A\n3/A\n4/A\n5/A\n6/A\n7/A\n8/A\n9/A\n0/A\n1/A\n2/A\n3/A\n4/A\n5/A\n6/A\n7/A\n8/A\n9/A\n3/~\n~" (no 3 40) ∷
    parse "X\n2/A\n3/A\n4/A\n5/A\n6/A\n7/A\n8/A\n9/A\n0/A\n1/A\n2/A\n3/A\n4/A\n5/A\n6/A\n7/A\n8/A\n9/A\n0/A\n1/A\n2/A\n3/A\n4/A\n5/A\n6/A\n7/A\n8/A\n9/A\n0/A\n1/A\n2/A\n3/A\n4/A\n5/A\n6/A\n7/A\n8/A\n9/A\n3/~" (no 3 40) ∷
    parse "X\n2/A\n3/A\n4/A\n5/A\n6/A\n7/A\n8/A\n9/A\n0/A\n1/A\n2/A\n3/A\n4/A\n5/A\n6/A\n7/A\n8/A\n9/A\n0/A\n1/A\n2/A\n3/A\n4/A\n5/A\n6/A\n7/A\n8/A\n9/A\n0/A\n1/A\n2/A\n3/A\n4/A\n5/A\n6/A\n7/A\n8/A\n9/A\n3/A^\n~" (no 3 40) ∷
    parse "X\n2/A\n3/A\n4/A\n5/A\n6/A\n7/A\n8/A\n9/A\n0/A\n1/A\n2/A\n3/A\n4/A\n5/A\n6/A\n7/A\n8/A\n9/A\n0/A\n1/A\n2/A\n3/A\n4/A\n5/A\n6/A\n7/A\n8/A\n9/A\n0/A\n1/A\n2/A\n3/A\n4/A\n5/A\n6/A\n7/A\n8/A\n9/A\n3/A^" (no 3 40) ∷
    parse "X\n3/ABCDEFGHIJKLMNOPQRSTUVWXYZ01234567\n~" (no 4 2) ∷
    parse "X\n3/ABCDEFGHIJKLMNOPQRSTUVWXYZ01234567" (no 4 2) ∷
    parse "X\n2/A\n3/ABCDEFGHIJKLMNOPQRSTUVWXYZ01234567\n~" (no 4 3) ∷
    parse "X\n2/A\n3/ABCDEFGHIJKLMNOPQRSTUVWXYZ01234567" (no 4 3) ∷
    parse "X\n2/A\n3/A\n3/ABCDEFGHIJKLMNOPQRSTUVWXYZ01234567\n~" (no 4 4) ∷
    parse "X\n2/A\n3/A\n3/ABCDEFGHIJKLMNOPQRSTUVWXYZ01234567" (no 4 4) ∷
    parse "X\n2/A\n3/A\n4/A\n3/ABCDEFGHIJKLMNOPQRSTUVWXYZ01234567\n~" (no 4 5) ∷
    parse "X\n2/A\n3/A\n4/A\n3/ABCDEFGHIJKLMNOPQRSTUVWXYZ01234567" (no 4 5) ∷
    parse "X\n2/A\n3/A\n4/A\n5/A\n3/ABCDEFGHIJKLMNOPQRSTUVWXYZ01234567\n~" (no 4 6) ∷
    parse "X\n2/A\n3/A\n4/A\n5/A\n3/ABCDEFGHIJKLMNOPQRSTUVWXYZ01234567" (no 4 6) ∷
    parse "X\n2/A\n3/A\n4/A\n5/A\n6/A\n3/ABCDEFGHIJKLMNOPQRSTUVWXYZ01234567\n~" (no 4 7) ∷
    parse "X\n2/A\n3/A\n4/A\n5/A\n6/A\n3/ABCDEFGHIJKLMNOPQRSTUVWXYZ01234567" (no 4 7) ∷
    parse "X\n2/A\n3/A\n4/A\n5/A\n6/A\n7/A\n3/ABCDEFGHIJKLMNOPQRSTUVWXYZ01234567\n~" (no 4 8) ∷
    parse "X\n2/A\n3/A\n4/A\n5/A\n6/A\n7/A\n3/ABCDEFGHIJKLMNOPQRSTUVWXYZ01234567" (no 4 8) ∷
    parse "X\n2/A\n3/A\n4/A\n5/A\n6/A\n7/A\n8/A\n3/ABCDEFGHIJKLMNOPQRSTUVWXYZ01234567\n~" (no 4 9) ∷
    parse "X\n2/A\n3/A\n4/A\n5/A\n6/A\n7/A\n8/A\n3/ABCDEFGHIJKLMNOPQRSTUVWXYZ01234567" (no 4 9) ∷
    parse "X\n2/A\n3/A\n4/A\n5/A\n6/A\n7/A\n8/A\n9/A\n3/ABCDEFGHIJKLMNOPQRSTUVWXYZ01234567\n~" (no 4 10) ∷
    parse "X\n2/A\n3/A\n4/A\n5/A\n6/A\n7/A\n8/A\n9/A\n3/ABCDEFGHIJKLMNOPQRSTUVWXYZ01234567" (no 4 10) ∷
    parse "X\n2/A\n3/A\n4/A\n5/A\n6/A\n7/A\n8/A\n9/A\n0/A\n3/ABCDEFGHIJKLMNOPQRSTUVWXYZ01234567\n~" (no 4 11) ∷
    parse "X\n2/A\n3/A\n4/A\n5/A\n6/A\n7/A\n8/A\n9/A\n0/A\n3/ABCDEFGHIJKLMNOPQRSTUVWXYZ01234567" (no 4 11) ∷
    parse "X\n2/A\n3/A\n4/A\n5/A\n6/A\n7/A\n8/A\n9/A\n0/A\n1/A\n2/A\n3/A\n4/A\n5/A\n6/A\n7/A\n8/A\n9/A\n0/A\n1/A\n2/A\n3/A\n4/A\n5/A\n6/A\n7/A\n8/A\n9/A\n0/A\n1/A\n2/A\n3/A\n4/A\n5/A\n6/A\n7/A\n8/A\n9/A\n3/ABCDEFGHIJKLMNOPQRSTUVWXYZ01234567\n~" (no 4 40) ∷
    parse "X\n2/A\n3/A\n4/A\n5/A\n6/A\n7/A\n8/A\n9/A\n0/A\n1/A\n2/A\n3/A\n4/A\n5/A\n6/A\n7/A\n8/A\n9/A\n0/A\n1/A\n2/A\n3/A\n4/A\n5/A\n6/A\n7/A\n8/A\n9/A\n0/A\n1/A\n2/A\n3/A\n4/A\n5/A\n6/A\n7/A\n8/A\n9/A\n3/ABCDEFGHIJKLMNOPQRSTUVWXYZ01234567" (no 4 40) ∷
    parse "X\nA\n~" (no 5 2) ∷
    parse "X\nA" (no 5 2) ∷
    parse "X\n\n~" (no 5 2) ∷
    parse "X\n2/A\nA\n~" (no 5 3) ∷
    parse "X\n2/A\nA" (no 5 3) ∷
    parse "X\n2/A\n\n~" (no 5 3) ∷
    parse "X\n2/A\n" (ok Field50F (some "X") "" ("A" ∷ []) ":50F:X\n1/A") ∷
    parse "X\n2/A\n3/A\nA\n~" (no 5 4) ∷
    parse "X\n2/A\n3/A\nA" (no 5 4) ∷
    parse "X\n2/A\n3/A\n\n~" (no 5 4) ∷
    parse "X\n2/A\n3/A\n" (ok Field50F (some "X") "" ("A" ∷ "A" ∷ []) ":50F:X\n1/A\n2/A") ∷
    parse "X\n2/A\n3/A\n4/A\nA\n~" (no 5 5) ∷
    parse "X\n2/A\n3/A\n4/A\nA" (no 5 5) ∷
    parse "X\n2/A\n3/A\n4/A\n\n~" (no 5 5) ∷
    parse "X\n2/A\n3/A\n4/A\n" (ok Field50F (some "X") "" ("A" ∷ "A" ∷ "A" ∷ []) ":50F:X\n1/A\n2/A\n3/A") ∷
    parse "X\n2/A\n3/A\n4/A\n5/A\nA\n~" (no 5 6) ∷
    parse "X\n2/A\n3/A\n4/A\n5/A\nA" (no 5 6) ∷
    parse "X\n2/A\n3/A\n4/A\n5/A\n\n~" (no 5 6) ∷
    parse "X\n2/A\n3/A\n4/A\n5/A\n" (ok Field50F (some "X") "" ("A" ∷ "A" ∷ "A" ∷ "A" ∷ []) ":50F:X\n1/A\n2/A\n3/A\n4/A") ∷
    parse "X\n2/A\n3/A\n4/A\n5/A\n6/A\nA\n~" (no 5 7) ∷
    parse "X\n2/A\n3/A\n4/A\n5/A\n6/A\nA" (no 5 7) ∷
    parse "X\n2/A\n3/A\n4/A\n5/A\n6/A\n\n~" (no 5 7) ∷
    parse "X\n2/A\n3/A\n4/A\n5/A\n6/A\n" (no 7 0) ∷
    parse "X\n2/A\n3/A\n4/A\n5/A\n6/A\n7/A\nA\n~" (no 5 8) ∷
    parse "X\n2/A\n3/A\n4/A\n5/A\n6/A\n7/A\nA" (no 5 8) ∷
    parse "X\n2/A\n3/A\n4/A\n5/A\n6/A\n7/A\n\n~" (no 5 8) ∷
    parse "X\n2/A\n3/A\n4/A\n5/A\n6/A\n7/A\n" (no 7 0) ∷
    parse "X\n2/A\n3/A\n4/A\n5/A\n6/A\n7/A\n8/A\nA\n~" (no 5 9) ∷
    parse "X\n2/A\n3/A\n4/A\n5/A\n6/A\n7/A\n8/A\nA" (no 5 9) ∷
    parse "X\n2/A\n3/A\n4/A\n5/A\n6/A\n7/A\n8/A\n\n~" (no 5 9) ∷
    parse "X\n2/A\n3/A\n4/A\n5/A\n6/A\n7/A\n8/A\n" (no 7 0) ∷
    parse "X\n2/A\n3/A\n4/A\n5/A\n6/A\n7/A\n8/A\n9/A\nA\n~" (no 5 10) ∷
    parse "X\n2/A\n3/A\n4/A\n5/A\n6/A\n7/A\n8/A\n9/A\nA" (no 5 10) ∷
    parse "X\n2/A\n3/A\n4/A\n5/A\n6/A\n7/A\n8/A\n9/A\n\n~" (no 5 10) ∷
    parse "X\n2/A\n3/A\n4/A\n5/A\n6/A\n7/A\n8/A\n9/A\n" (no 7 0) ∷
    parse "X\n2/A\n3/A\n4/A\n5/A\n6/A\n7/A\n8/A\n9/A\n0/A\nA\n~" (no 5 11) ∷
    parse "X\n2/A\n3/A\n4/A\n5/A\n6/A\n7/A\n8/A\n9/A\n0/A\nA" (no 5 11) ∷
    parse "X\n2/A\n3/A\n4/A\n5/A\n6/A\n7/A\n8/A\n9/A\n0/A\n\n~" (no 5 11) ∷
    parse "X\n2/A\n3/A\n4/A\n5/A\n6/A\n7/A\n8/A\n9/A\n0/A\n" (no 7 0) ∷
    parse "X\n2/A\n3/A\n4/A\n5/A\n6/A\n7/A\n8/A\n9/A\n0/A\n1/A\n2/A\n3/A\n4/A\n5/A\n6/A\n7/A\n8/A\n9/A\n0/A\n1/A\n2/A\n3/A\n4/A\n5/A\n6/A\n7/A\n8/A\n9/A\n0/A\n1/A\n2/A\n3/A\n4/A\n5/A\n6/A\n7/A\n8/A\n9/A\nA\n~" (no 5 40) ∷
    parse "X\n2/A\n3/A\n4/A\n5/A\n6/A\n7/A\n8/A\n9/A\n0/A\n1/A\n2/A\n3/A\n4/A\n5/A\n6/A\n7/A\n8/A\n9/A\n0/A\n1/A\n2/A\n3/A\n4/A\n5/A\n6/A\n7/A\n8/A\n9/A\n0/A\n1/A\n2/A\n3/A\n4/A\n5/A\n6/A\n7/A\n8/A\n9/A\nA" (no 5 40) ∷
    parse "X\n2/A\n3/A\n4/A\n5/A\n6/A\n7/A\n8/A\n9/A\n0/A\n1/A\n2/A\n3/A\n4/A\n5/A\n6/A\n7/A\n8/A\n9/A\n0/A\n1/A\n2/A\n3/A\n4/A\n5/A\n6/A\n7/A\n8/A\n9/A\n0/A\n1/A\n2/A\n3/A\n4/A\n5/A\n6/A\n7/A\n8/A\n9/A\n\n~" (no 5 40) ∷
    parse "X\n2/A\n3/A\n4/A\n5/A\n6/A\n7/A\n8/A\n9/A\n0/A\n1/A\n2/A\n3/A\n4/A\n5/A\n6/A\n7/A\n8/A\n9/A\n0/A\n1/A\n2/A\n3/A\n4/A\n5/A\n6/A\n7/A\n8/A\n9/A\n0/A\n1/A\n2/A\n3/A\n4/A\n5/A\n6/A\n7/A\n8/A\n9/A\n" (no 7 0) ∷
    parse "X\n1/A\n2/A\n3/A\n4/A\n5/A" (no 7 0) ∷
    parse "X\n1/A\n2/A\n3/A\n4/A\n5/A\n6/A\n7/A\n8/A\n9/A\n0/A\n1/A" (no 7 0) ∷
    parse "A\n1/A" (ok Field50F (some "A") "" ("A" ∷ []) ":50F:A\n1/A") ∷
    parse "ABCDEFGHIJKLMNOPQRSTUVWXYZ01234567\n1/A" (ok Field50F (some "ABCDEFGHIJKLMNOPQRSTUVWXYZ01234567") "" ("A" ∷ []) ":50F:ABCDEFGHIJKLMNOPQRSTUVWXYZ01234567\n1/A") ∷
    parse "ABCDEFGHIJKLMNOPQRSTUVWXYZ012345678\n1/A" (ok Field50F (some "ABCDEFGHIJKLMNOPQRSTUVWXYZ012345678") "" ("A" ∷ []) ":50F:ABCDEFGHIJKLMNOPQRSTUVWXYZ012345678\n1/A") ∷
    parse "X\n1/A\n2/A" (ok Field50F (some "X") "" ("A" ∷ "A" ∷ []) ":50F:X\n1/A\n2/A") ∷
    parse "X\n1/A\n2/A\n3/A" (ok Field50F (some "X") "" ("A" ∷ "A" ∷ "A" ∷ []) ":50F:X\n1/A\n2/A\n3/A") ∷
    parse "X\n1/A\n2/A\n3/A\n4/A" (ok Field50F (some "X") "" ("A" ∷ "A" ∷ "A" ∷ "A" ∷ []) ":50F:X\n1/A\n2/A\n3/A\n4/A") ∷
    parse "X\n1/A\n2/A\n3/A\n4/A\n5/A\n6/A" (no 7 0) ∷
    parse "X\n1/A\n2/A\n3/A\n4/A\n5/A\n6/A\n7/A\n8/A\n9/A" (no 7 0) ∷
    parse "X\n1/A\n2/A\n3/A\n4/A\n5/A\n6/A\n7/A\n8/A\n9/A\n0/A" (no 7 0) ∷
    parse "X\n1/" (ok Field50F (some "X") "" ("" ∷ []) ":50F:X\n1/") ∷
    parse "X\n1/ABCDEFGHIJKLMNOPQRSTUVWXYZ012345" (ok Field50F (some "X") "" ("ABCDEFGHIJKLMNOPQRSTUVWXYZ012345" ∷ []) ":50F:X\n1/ABCDEFGHIJKLMNOPQRSTUVWXYZ012345") ∷
    parse "X\n1/ABCDEFGHIJKLMNOPQRSTUVWXYZ0123456" (ok Field50F (some "X") "" ("ABCDEFGHIJKLMNOPQRSTUVWXYZ0123456" ∷ []) ":50F:X\n1/ABCDEFGHIJKLMNOPQRSTUVWXYZ0123456") ∷
    parse "X\n1/ABCDEFGHIJKLMNOPQRSTUVWXYZ01234567" (no 4 2) ∷
    parse "X\n1/A\n2/A\n3/A\n4/" (ok Field50F (some "X") "" ("A" ∷ "A" ∷ "A" ∷ "" ∷ []) ":50F:X\n1/A\n2/A\n3/A\n4/") ∷
    parse "X\n1/A\n2/A\n3/A\n4/ABCDEFGHIJKLMNOPQRSTUVWXYZ012345" (ok Field50F (some "X") "" ("A" ∷ "A" ∷ "A" ∷ "ABCDEFGHIJKLMNOPQRSTUVWXYZ012345" ∷ []) ":50F:X\n1/A\n2/A\n3/A\n4/ABCDEFGHIJKLMNOPQRSTUVWXYZ012345") ∷
    parse "X\n1/A\n2/A\n3/A\n4/ABCDEFGHIJKLMNOPQRSTUVWXYZ0123456" (ok Field50F (some "X") "" ("A" ∷ "A" ∷ "A" ∷ "ABCDEFGHIJKLMNOPQRSTUVWXYZ0123456" ∷ []) ":50F:X\n1/A\n2/A\n3/A\n4/ABCDEFGHIJKLMNOPQRSTUVWXYZ0123456") ∷
    parse "X\n1/A\n2/A\n3/A\n4/ABCDEFGHIJKLMNOPQRSTUVWXYZ01234567" (no 4 5) ∷
    parse "\rX\n1/A" (ok Field50F (some "\rX") "" ("A" ∷ []) ":50F:\rX\n1/A") ∷
    parse "X\r\n1/A" (ok Field50F (some "X") "" ("A" ∷ []) ":50F:X\n1/A") ∷
    parse "X\n\r1/A" (no 5 2) ∷
    parse "X\n1\r/A" (no 5 2) ∷
    parse "X\n1/\rA" (ok Field50F (some "X") "" ("\rA" ∷ []) ":50F:X\n1/\rA") ∷
    parse "X\n1/A\r" (ok Field50F (some "X") "" ("A\r" ∷ []) ":50F:X\n1/A\r") ∷
    parse "\nX\n1/A" (no 2 1) ∷
    parse "X\n\n1/A" (no 5 2) ∷
    parse "X\n1\n/A" (no 5 2) ∷
    parse "X\n1/\nA" (no 5 3) ∷
    parse "X\n1/A\n" (ok Field50F (some "X") "" ("A" ∷ []) ":50F:X\n1/A") ∷
    parse "\r\nX\n1/A" (no 2 1) ∷
    parse "X\r\n\n1/A" (no 5 2) ∷
    parse "X\n\r\n1/A" (no 5 2) ∷
    parse "X\n1\r\n/A" (no 5 2) ∷
    parse "X\n1/\r\nA" (no 5 3) ∷
    parse "X\n1/A\r\n" (ok Field50F (some "X") "" ("A" ∷ []) ":50F:X\n1/A") ∷
    parse "\r\n1/A" (no 2 1) ∷
    parse "X\r1/A" (no 1 0) ∷
    parse "X\n\r/A" (no 5 2) ∷
    parse "X\n1\rA" (no 5 2) ∷
    parse "X\n1/\r" (ok Field50F (some "X") "" ("\r" ∷ []) ":50F:X\n1/\r") ∷
    parse "\n\n1/A" (no 2 1) ∷
    parse "X\n\n/A" (no 5 2) ∷
    parse "X\n1\nA" (no 5 2) ∷
    parse "X\n1/\n" (ok Field50F (some "X") "" ("" ∷ []) ":50F:X\n1/") ∷
    parse "\rX\n1/A\n2/B" (ok Field50F (some "\rX") "" ("A" ∷ "B" ∷ []) ":50F:\rX\n1/A\n2/B") ∷
    parse "X\r\n1/A\n2/B" (ok Field50F (some "X") "" ("A" ∷ "B" ∷ []) ":50F:X\n1/A\n2/B") ∷
    parse "X\n\r1/A\n2/B" (no 5 2) ∷
    parse "X\n1\r/A\n2/B" (no 5 2) ∷
    parse "X\n1/\rA\n2/B" (ok Field50F (some "X") "" ("\rA" ∷ "B" ∷ []) ":50F:X\n1/\rA\n2/B") ∷
    parse "X\n1/A\r\n2/B" (ok Field50F (some "X") "" ("A" ∷ "B" ∷ []) ":50F:X\n1/A\n2/B") ∷
    parse "X\n1/A\n\r2/B" (no 5 3) ∷
    parse "X\n1/A\n2\r/B" (no 5 3) ∷
    parse "X\n1/A\n2/\rB" (ok Field50F (some "X") "" ("A" ∷ "\rB" ∷ []) ":50F:X\n1/A\n2/\rB") ∷
    parse "X\n1/A\n2/B\r" (ok Field50F (some "X") "" ("A" ∷ "B\r" ∷ []) ":50F:X\n1/A\n2/B\r") ∷
    parse "\nX\n1/A\n2/B" (no 2 1) ∷
    parse "X\n\n1/A\n2/B" (no 5 2) ∷
    parse "X\n1\n/A\n2/B" (no 5 2) ∷
    parse "X\n1/\nA\n2/B" (no 5 3) ∷
    parse "X\n1/A\n\n2/B" (no 5 3) ∷
    parse "X\n1/A\n2\n/B" (no 5 3) ∷
    parse "X\n1/A\n2/\nB" (no 5 4) ∷
    parse "X\n1/A\n2/B\n" (ok Field50F (some "X") "" ("A" ∷ "B" ∷ []) ":50F:X\n1/A\n2/B") ∷
    parse "\r\nX\n1/A\n2/B" (no 2 1) ∷
    parse "X\r\n\n1/A\n2/B" (no 5 2) ∷
    parse "X\n\r\n1/A\n2/B" (no 5 2) ∷
    parse "X\n1\r\n/A\n2/B" (no 5 2) ∷
    parse "X\n1/\r\nA\n2/B" (no 5 3) ∷
    parse "X\n1/A\r\n\n2/B" (no 5 3) ∷
    parse "X\n1/A\n\r\n2/B" (no 5 3) ∷
    parse "X\n1/A\n2\r\n/B" (no 5 3) ∷
    parse "X\n1/A\n2/\r\nB" (no 5 4) ∷
    parse "X\n1/A\n2/B\r\n" (ok Field50F (some "X") "" ("A" ∷ "B" ∷ []) ":50F:X\n1/A\n2/B") ∷
    parse "\r\n1/A\n2/B" (no 2 1) ∷
    parse "X\r1/A\n2/B" (ok Field50F (some "X\r1/A") "" ("B" ∷ []) ":50F:X\r1/A\n1/B") ∷
    parse "X\n\r/A\n2/B" (no 5 2) ∷
    parse "X\n1\rA\n2/B" (no 5 2) ∷
    parse "X\n1/\r\n2/B" (ok Field50F (some "X") "" ("" ∷ "B" ∷ []) ":50F:X\n1/\n2/B") ∷
    parse "X\n1/A\r2/B" (ok Field50F (some "X") "" ("A\r2/B" ∷ []) ":50F:X\n1/A\r2/B") ∷
    parse "X\n1/A\n\r/B" (no 5 3) ∷
    parse "X\n1/A\n2\rB" (no 5 3) ∷
    parse "X\n1/A\n2/\r" (ok Field50F (some "X") "" ("A" ∷ "\r" ∷ []) ":50F:X\n1/A\n2/\r") ∷
    parse "\n\n1/A\n2/B" (no 2 1) ∷
    parse "X\n1/A\n2/B" (ok Field50F (some "X") "" ("A" ∷ "B" ∷ []) ":50F:X\n1/A\n2/B") ∷
    parse "X\n\n/A\n2/B" (no 5 2) ∷
    parse "X\n1\nA\n2/B" (no 5 2) ∷
    parse "X\n1/\n\n2/B" (no 5 3) ∷
    parse "X\n1/A\n\n/B" (no 5 3) ∷
    parse "X\n1/A\n2\nB" (no 5 3) ∷
    parse "X\n1/A\n2/\n" (ok Field50F (some "X") "" ("A" ∷ "" ∷ []) ":50F:X\n1/A\n2/") ∷
    parse "\0\n1/A\n2/B" (no 3 1) ∷
    parse " \n1/A\n2/B" (ok Field50F (some " ") "" ("A" ∷ "B" ∷ []) ":50F: \n1/A\n2/B") ∷
    parse "/\n1/A\n2/B" (ok Field50F (some "/") "" ("A" ∷ "B" ∷ []) ":50F:/\n1/A\n2/B") ∷
    parse "@\n1/A\n2/B" (ok Field50F (some "@") "" ("A" ∷ "B" ∷ []) ":50F:@\n1/A\n2/B") ∷
    parse "[\n1/A\n2/B" (ok Field50F (some "[") "" ("A" ∷ "B" ∷ []) ":50F:[\n1/A\n2/B") ∷
    parse "z\n1/A\n2/B" (ok Field50F (some "z") "" ("A" ∷ "B" ∷ []) ":50F:z\n1/A\n2/B") ∷
    parse "~\n1/A\n2/B" (no 3 1) ∷
    parse "X\t1/A\n2/B" (no 3 1) ∷
    parse "X!1/A\n2/B" (ok Field50F (some "X!1/A") "" ("B" ∷ []) ":50F:X!1/A\n1/B") ∷
    parse "X01/A\n2/B" (ok Field50F (some "X01/A") "" ("B" ∷ []) ":50F:X01/A\n1/B") ∷
    parse "XZ1/A\n2/B" (ok Field50F (some "XZ1/A") "" ("B" ∷ []) ":50F:XZ1/A\n1/B") ∷
    parse "Xa1/A\n2/B" (ok Field50F (some "Xa1/A") "" ("B" ∷ []) ":50F:Xa1/A\n1/B") ∷
    parse "X{1/A\n2/B" (ok Field50F (some "X{1/A") "" ("B" ∷ []) ":50F:X{1/A\n1/B") ∷
    parse "X\n\0/A\n2/B" (no 5 2) ∷
    parse "X\n /A\n2/B" (no 5 2) ∷
    parse "X\n//A\n2/B" (no 5 2) ∷
    parse "X\n@/A\n2/B" (no 5 2) ∷
    parse "X\n[/A\n2/B" (no 5 2) ∷
    parse "X\nz/A\n2/B" (no 5 2) ∷
    parse "X\n~/A\n2/B" (no 5 2) ∷
    parse "X\n1\tA\n2/B" (no 5 2) ∷
    parse "X\n1!A\n2/B" (no 5 2) ∷
    parse "X\n10A\n2/B" (no 5 2) ∷
    parse "X\n1ZA\n2/B" (no 5 2) ∷
    parse "X\n1aA\n2/B" (no 5 2) ∷
    parse "X\n1{A\n2/B" (no 5 2) ∷
    parse "X\n1/\0\n2/B" (no 3 2) ∷
    parse "X\n1/ \n2/B" (ok Field50F (some "X") "" (" " ∷ "B" ∷ []) ":50F:X\n1/ \n2/B") ∷
    parse "X\n1//\n2/B" (ok Field50F (some "X") "" ("/" ∷ "B" ∷ []) ":50F:X\n1//\n2/B") ∷
    parse "X\n1/@\n2/B" (ok Field50F (some "X") "" ("@" ∷ "B" ∷ []) ":50F:X\n1/@\n2/B") ∷
    parse "X\n1/[\n2/B" (ok Field50F (some "X") "" ("[" ∷ "B" ∷ []) ":50F:X\n1/[\n2/B") ∷
    parse "X\n1/z\n2/B" (ok Field50F (some "X") "" ("z" ∷ "B" ∷ []) ":50F:X\n1/z\n2/B") ∷
    parse "X\n1/~\n2/B" (no 3 2) ∷
    parse "X\n1/A\t2/B" (no 3 2) ∷
    parse "X\n1/A!2/B" (ok Field50F (some "X") "" ("A!2/B" ∷ []) ":50F:X\n1/A!2/B") ∷
    parse "X\n1/A02/B" (ok Field50F (some "X") "" ("A02/B" ∷ []) ":50F:X\n1/A02/B") ∷
    parse "X\n1/AZ2/B" (ok Field50F (some "X") "" ("AZ2/B" ∷ []) ":50F:X\n1/AZ2/B") ∷
    parse "X\n1/Aa2/B" (ok Field50F (some "X") "" ("Aa2/B" ∷ []) ":50F:X\n1/Aa2/B") ∷
    parse "X\n1/A{2/B" (ok Field50F (some "X") "" ("A{2/B" ∷ []) ":50F:X\n1/A{2/B") ∷
    parse "X\n1/A\n\0/B" (no 5 3) ∷
    parse "X\n1/A\n /B" (no 5 3) ∷
    parse "X\n1/A\n//B" (no 5 3) ∷
    parse "X\n1/A\n@/B" (no 5 3) ∷
    parse "X\n1/A\n[/B" (no 5 3) ∷
    parse "X\n1/A\nz/B" (no 5 3) ∷
    parse "X\n1/A\n~/B" (no 5 3) ∷
    parse "X\n1/A\n2\tB" (no 5 3) ∷
    parse "X\n1/A\n2!B" (no 5 3) ∷
    parse "X\n1/A\n20B" (no 5 3) ∷
    parse "X\n1/A\n2ZB" (no 5 3) ∷
    parse "X\n1/A\n2aB" (no 5 3) ∷
    parse "X\n1/A\n2{B" (no 5 3) ∷
    parse "X\n1/A\n2/\0" (no 3 3) ∷
    parse "X\n1/A\n2/ " (ok Field50F (some "X") "" ("A" ∷ " " ∷ []) ":50F:X\n1/A\n2/ ") ∷
    parse "X\n1/A\n2//" (ok Field50F (some "X") "" ("A" ∷ "/" ∷ []) ":50F:X\n1/A\n2//") ∷
    parse "X\n1/A\n2/@" (ok Field50F (some "X") "" ("A" ∷ "@" ∷ []) ":50F:X\n1/A\n2/@") ∷
    parse "X\n1/A\n2/[" (ok Field50F (some "X") "" ("A" ∷ "[" ∷ []) ":50F:X\n1/A\n2/[") ∷
    parse "X\n1/A\n2/z" (ok Field50F (some "X") "" ("A" ∷ "z" ∷ []) ":50F:X\n1/A\n2/z") ∷
    parse "X\n1/A\n2/~" (no 3 3) ∷
    parse "X\n1/\n1/\n1/\n1/\n1/\n1/\n1/\n1/\n1/\n1/\n1/\n1/\n1/\n1/\n1/\n1/\n1/\n1/\n1/\n1/\n1/\n1/\n1/\n1/\n1/\n1/\n1/\n1/\n1/\n1/\n1/\n1/\n1/\n1/\n1/\n1/\n1/\n1/\n1/\n1/\n1/\n1/\n1/\n1/\n1/\n1/\n1/\n1/\n1/\n1/\n1/\n1/\n1/\n1/\n1/\n1/\n1/\n1/\n1/\n1/\n1/\n1/\n1/\n1/\n1/\n1/\n1/\n1/\n1/\n1/\n1/\n1/\n1/\n1/\n1/\n1/\n1/\n1/\n1/\n1/\n1/\n1/\n1/\n1/\n1/\n1/\n1/\n1/\n1/\n1/\n1/\n1/\n1/\n1/\n1/\n1/\n1/\n1/\n1/\n1/\n1/\n1/\n1/\n1/\n1/\n1/\n1/\n1/\n1/\n1/\n1/\n1/\n1/\n1/\n1/\n1/\n1/\n1/\n1/\n1/\n1/\n1/\n1/\n1/\n1/\n1/\n1/\n1/\n1/\n1/\n1/\n1/\n1/\n1/\n1/\n1/\n1/\n1/\n1/\n1/\n1/\n1/\n1/\n1/\n1/\n1/\n1/\n1/\n1/\n1/\n1/\n1/\n1/\n1/\n1/\n1/\n1/\n1/\n1/\n1/\n1/\n1/\n1/\n1/\n1/\n1/\n1/\n1/\n1/\n1/\n1/\n1/\n1/\n1/\n1/\n1/\n1/\n1/\n1/\n1/\n1/\n1/\n1/\n1/\n1/\n1/\n1/\n1/\n1/\n1/\n1/\n1/\n1/\n1/\n1/\n1/\n1/\n1/\n1/\n1/\n1/\n1/\n1/\n1/\n1/\n1/\n1/\n1/\n1/\n1/\n1/\n1/\n1/\n1/\n1/\n1/\n1/\n1/\n1/\n1/\n1/\n1/\n1/\n1/\n1/\n1/\n1/\n1/\n1/\n1/\n1/\n1/\n1/\n1/\n1/\n1/\n1/\n1/\n1/\n1/\n1/\n1/\n1/\n1/\n1/\n1/\n1/\n1/\n1/\n1/\n1/\n1/\n1/\n1/\n1/\n1/\n1/\n1/\n1/\n1/\n1/\n1/\n1/\n1/\n1/\n1/\n1/\n1/\n1/\n1/\n1/\n1/\n1/\n1/\n1/\n1/\n1/\n1/\n1/\n1/\n1/\n1/\n1/\n1/\n1/\n1/\n1/\n1/\n1/\n1/\n1/\n1/\n1/\n1/\n1/\n1/\n1/\n1/\n1/\n1/\n1/\n1/\n1/\n1/\n1/\n1/\n1/\n1/\n1/\n1/\n1/\n1/\n1/\n1/\n1/\n1/\n1/\n1/\n1/\n1/\n1/\n1/\n1/\n1/\n1/\n1/\n1/\n1/\n1/\n1/\n1/\n1/\n1/\n1/\n1/\n1/\n1/\n1/\n1/\n1/\n1/\n1/\n1/\n1/\n1/\n1/\n1/\n1/\n1/\n1/\n1/\n1/\n1/\n1/\n1/\n1/\n1/\n1/\n1/\n1/\n1/\n1/\n1/\n1/\n1/\n1/\n1/\n1/\n1/\n1/\n1/\n1/\n1/\n1/\n1/\n1/\n1/\n1/\n1/\n1/\n1/\n1/\n1/\n1/\n1/\n1/\n1/\n1/\n1/\n1/\n1/\n1/\n1/\n1/\n1/\n1/\n1/\n1/\n1/\n1/\n1/\n1/\n1/\n1/\n1/\n1/\n1/\n1/\n1/\n1/\n1/\n1/\n1/\n1/\n1/\n1/\n1/\n1/\n1/\n1/\n1/\n1/\n1/\n1/\n1/\n1/\n1/\n1/\n1/\n1/\n1/\n1/\n1/\n1/\n1/\n1/\n1/\n1/\n1/\n1/\n1/\n1/\n1/\n1/\n1/\n1/\n1/\n1/\n1/\n1/\n1/\n1/\n1/\n1/\n1/\n1/\n1/\n1/\n1/\n1/\n1/\n1/\n1/\n1/\n1/\n1/\n1/\n1/\n1/\n1/\n1/\n1/\n1/\n1/\n1/\n1/\n1/\n1/\n1/\n1/\n1/\n1/\n1/\n1/\n1/\n1/\n1/\n1/\n1/\n1/\n1/\n1/\n1/\n1/\n1/\n1/\n1/\n1/\n1/\n1/\n1/\n1/\n1/\n1/\n1/\n1/\n1/\n1/\n1/\n1/\n1/\n1/\n1/\n1/\n1/\n1/\n1/\n1/\n1/\n1/\n1/\n1/\n1/\n1/\n1/\n1/\n1/\n1/\n1/\n1/\n1/\n1/\n1/\n1/\n1/\n1/\n1/\n1/\n1/\n1/\n1/\n1/\n1/\n1/\n1/\n1/\n1/\n1/\n1/\n1/\n1/\n1/\n1/\n1/\n1/\n1/\n1/\n1/\n1/\n1/\n1/\n1/\n1/\n1/\n1/\n1/\n1/\n1/\n1/\n1/\n1/\n1/\n1/\n1/\n1/\n1/\n1/\n1/\n1/\n1/\n1/\n1/\n1/\n1/\n1/\n1/\n1/\n1/\n1/\n1/\n1/\n1/\n1/\n1/\n1/\n1/\n1/\n1/\n1/\n1/\n1/\n1/\n1/\n1/\n1/\n1/\n1/\n1/\n1/\n1/\n1/\n1/\n1/\n1/\n1/\n1/\n1/\n1/\n1/\n1/\n1/\n1/\n1/\n1/\n1/\n1/\n1/\n1/\n1/\n1/\n1/\n1/\n1/\n1/\n1/\n1/\n1/\n1/\n1/\n1/\n1/\n1/\n1/\n1/\n1/\n1/\n1/\n1/\n1/\n1/\n1/\n1/\n1/\n1/\n1/\n1/\n1/\n1/\n1/\n1/\n1/\n1/\n1/\n1/\n1/\n1/\n1/\n1/\n1/\n1/\n1/\n1/\n1/\n1/\n1/\n1/\n1/\n1/\n1/\n1/\n1/\n1/~" (no 3 683) ∷
    parse "X\n1/\n1/\n1/\n1/\n1/\n1/\n1/\n1/\n1/\n1/\n1/\n1/\n1/\n1/\n1/\n1/\n1/\n1/\n1/\n1/\n1/\n1/\n1/\n1/\n1/\n1/\n1/\n1/\n1/\n1/\n1/\n1/\n1/\n1/\n1/\n1/\n1/\n1/\n1/\n1/\n1/\n1/\n1/\n1/\n1/\n1/\n1/\n1/\n1/\n1/\n1/\n1/\n1/\n1/\n1/\n1/\n1/\n1/\n1/\n1/\n1/\n1/\n1/\n1/\n1/\n1/\n1/\n1/\n1/\n1/\n1/\n1/\n1/\n1/\n1/\n1/\n1/\n1/\n1/\n1/\n1/\n1/\n1/\n1/\n1/\n1/\n1/\n1/\n1/\n1/\n1/\n1/\n1/\n1/\n1/\n1/\n1/\n1/\n1/\n1/\n1/\n1/\n1/\n1/\n1/\n1/\n1/\n1/\n1/\n1/\n1/\n1/\n1/\n1/\n1/\n1/\n1/\n1/\n1/\n1/\n1/\n1/\n1/\n1/\n1/\n1/\n1/\n1/\n1/\n1/\n1/\n1/\n1/\n1/\n1/\n1/\n1/\n1/\n1/\n1/\n1/\n1/\n1/\n1/\n1/\n1/\n1/\n1/\n1/\n1/\n1/\n1/\n1/\n1/\n1/\n1/\n1/\n1/\n1/\n1/\n1/\n1/\n1/\n1/\n1/\n1/\n1/\n1/\n1/\n1/\n1/\n1/\n1/\n1/\n1/\n1/\n1/\n1/\n1/\n1/\n1/\n1/\n1/\n1/\n1/\n1/\n1/\n1/\n1/\n1/\n1/\n1/\n1/\n1/\n1/\n1/\n1/\n1/\n1/\n1/\n1/\n1/\n1/\n1/\n1/\n1/\n1/\n1/\n1/\n1/\n1/\n1/\n1/\n1/\n1/\n1/\n1/\n1/\n1/\n1/\n1/\n1/\n1/\n1/\n1/\n1/\n1/\n1/\n1/\n1/\n1/\n1/\n1/\n1/\n1/\n1/\n1/\n1/\n1/\n1/\n1/\n1/\n1/\n1/\n1/\n1/\n1/\n1/\n1/\n1/\n1/\n1/\n1/\n1/\n1/\n1/\n1/\n1/\n1/\n1/\n1/\n1/\n1/\n1/\n1/\n1/\n1/\n1/\n1/\n1/\n1/\n1/\n1/\n1/\n1/\n1/\n1/\n1/\n1/\n1/\n1/\n1/\n1/\n1/\n1/\n1/\n1/\n1/\n1/\n1/\n1/\n1/\n1/\n1/\n1/\n1/\n1/\n1/\n1/\n1/\n1/\n1/\n1/\n1/\n1/\n1/\n1/\n1/\n1/\n1/\n1/\n1/\n1/\n1/\n1/\n1/\n1/\n1/\n1/\n1/\n1/\n1/\n1/\n1/\n1/\n1/\n1/\n1/\n1/\n1/\n1/\n1/\n1/\n1/\n1/\n1/\n1/\n1/\n1/\n1/\n1/\n1/\n1/\n1/\n1/\n1/\n1/\n1/\n1/\n1/\n1/\n1/\n1/\n1/\n1/\n1/\n1/\n1/\n1/\n1/\n1/\n1/\n1/\n1/\n1/\n1/\n1/\n1/\n1/\n1/\n1/\n1/\n1/\n1/\n1/\n1/\n1/\n1/\n1/\n1/\n1/\n1/\n1/\n1/\n1/\n1/\n1/\n1/\n1/\n1/\n1/\n1/\n1/\n1/\n1/\n1/\n1/\n1/\n1/\n1/\n1/\n1/\n1/\n1/\n1/\n1/\n1/\n1/\n1/\n1/\n1/\n1/\n1/\n1/\n1/\n1/\n1/\n1/\n1/\n1/\n1/\n1/\n1/\n1/\n1/\n1/\n1/\n1/\n1/\n1/\n1/\n1/\n1/\n1/\n1/\n1/\n1/\n1/\n1/\n1/\n1/\n1/\n1/\n1/\n1/\n1/\n1/\n1/\n1/\n1/\n1/\n1/\n1/\n1/\n1/\n1/\n1/\n1/\n1/\n1/\n1/\n1/\n1/\n1/\n1/\n1/\n1/\n1/\n1/\n1/\n1/\n1/\n1/\n1/\n1/\n1/\n1/\n1/\n1/\n1/\n1/\n1/\n1/\n1/\n1/\n1/\n1/\n1/\n1/\n1/\n1/\n1/\n1/\n1/\n1/\n1/\n1/\n1/\n1/\n1/\n1/\n1/\n1/\n1/\n1/\n1/\n1/\n1/\n1/\n1/\n1/\n1/\n1/\n1/\n1/\n1/\n1/\n1/\n1/\n1/\n1/\n1/\n1/\n1/\n1/\n1/\n1/\n1/\n1/\n1/\n1/\n1/\n1/\n1/\n1/\n1/\n1/\n1/\n1/\n1/\n1/\n1/\n1/\n1/\n1/\n1/\n1/\n1/\n1/\n1/\n1/\n1/\n1/\n1/\n1/\n1/\n1/\n1/\n1/\n1/\n1/\n1/\n1/\n1/\n1/\n1/\n1/\n1/\n1/\n1/\n1/\n1/\n1/\n1/\n1/\n1/\n1/\n1/\n1/\n1/\n1/\n1/\n1/\n1/\n1/\n1/\n1/\n1/\n1/\n1/\n1/\n1/\n1/\n1/\n1/\n1/\n1/\n1/\n1/\n1/\n1/\n1/\n1/\n1/\n1/\n1/\n1/\n1/\n1/\n1/\n1/\n1/\n1/\n1/\n1/\n1/\n1/\n1/\n1/\n1/\n1/\n1/\n1/\n1/\n1/\n1/\n1/\n1/\n1/\n1/\n1/\n1/\n1/\n1/\n1/\n1/\n1/\n1/\n1/\n1/\n1/\n1/\n1/\n1/\n1/\n1/\n1/\n1/\n1/\n1/\n1/\n1/\n1/\n1/\n1/\n1/\n1/\n1/\n1/\n1/\n1/\n1/\n1/\n1/\n1/\n1/\n1/\n1/\n1/\n1/\n1/ABCDEFGHIJKLMNOPQRSTUVWXYZ01234567" (no 4 672) ∷
    parse "X\n1/\n1/\n1/\n1/\n1/\n1/\n1/\n1/\n1/\n1/\n1/\n1/\n1/\n1/\n1/\n1/\n1/\n1/\n1/\n1/\n1/\n1/\n1/\n1/\n1/\n1/\n1/\n1/\n1/\n1/\n1/\n1/\n1/\n1/\n1/\n1/\n1/\n1/\n1/\n1/\n1/\n1/\n1/\n1/\n1/\n1/\n1/\n1/\n1/\n1/\n1/\n1/\n1/\n1/\n1/\n1/\n1/\n1/\n1/\n1/\n1/\n1/\n1/\n1/\n1/\n1/\n1/\n1/\n1/\n1/\n1/\n1/\n1/\n1/\n1/\n1/\n1/\n1/\n1/\n1/\n1/\n1/\n1/\n1/\n1/\n1/\n1/\n1/\n1/\n1/\n1/\n1/\n1/\n1/\n1/\n1/\n1/\n1/\n1/\n1/\n1/\n1/\n1/\n1/\n1/\n1/\n1/\n1/\n1/\n1/\n1/\n1/\n1/\n1/\n1/\n1/\n1/\n1/\n1/\n1/\n1/\n1/\n1/\n1/\n1/\n1/\n1/\n1/\n1/\n1/\n1/\n1/\n1/\n1/\n1/\n1/\n1/\n1/\n1/\n1/\n1/\n1/\n1/\n1/\n1/\n1/\n1/\n1/\n1/\n1/\n1/\n1/\n1/\n1/\n1/\n1/\n1/\n1/\n1/\n1/\n1/\n1/\n1/\n1/\n1/\n1/\n1/\n1/\n1/\n1/\n1/\n1/\n1/\n1/\n1/\n1/\n1/\n1/\n1/\n1/\n1/\n1/\n1/\n1/\n1/\n1/\n1/\n1/\n1/\n1/\n1/\n1/\n1/\n1/\n1/\n1/\n1/\n1/\n1/\n1/\n1/\n1/\n1/\n1/\n1/\n1/\n1/\n1/\n1/\n1/\n1/\n1/\n1/\n1/\n1/\n1/\n1/\n1/\n1/\n1/\n1/\n1/\n1/\n1/\n1/\n1/\n1/\n1/\n1/\n1/\n1/\n1/\n1/\n1/\n1/\n1/\n1/\n1/\n1/\n1/\n1/\n1/\n1/\n1/\n1/\n1/\n1/\n1/\n1/\n1/\n1/\n1/\n1/\n1/\n1/\n1/\n1/\n1/\n1/\n1/\n1/\n1/\n1/\n1/\n1/\n1/\n1/\n1/\n1/\n1/\n1/\n1/\n1/\n1/\n1/\n1/\n1/\n1/\n1/\n1/\n1/\n1/\n1/\n1/\n1/\n1/\n1/\n1/\n1/\n1/\n1/\n1/\n1/\n1/\n1/\n1/\n1/\n1/\n1/\n1/\n1/\n1/\n1/\n1/\n1/\n1/\n1/\n1/\n1/\n1/\n1/\n1/\n1/\n1/\n1/\n1/\n1/\n1/\n1/\n1/\n1/\n1/\n1/\n1/\n1/\n1/\n1/\n1/\n1/\n1/\n1/\n1/\n1/\n1/\n1/\n1/\n1/\n1/\n1/\n1/\n1/\n1/\n1/\n1/\n1/\n1/\n1/\n1/\n1/\n1/\n1/\n1/\n1/\n1/\n1/\n1/\n1/\n1/\n1/\n1/\n1/\n1/\n1/\n1/\n1/\n1/\n1/\n1/\n1/\n1/\n1/\n1/\n1/\n1/\n1/\n1/\n1/\n1/\n1/\n1/\n1/\n1/\n1/\n1/\n1/\n1/\n1/\n1/\n1/\n1/\n1/\n1/\n1/\n1/\n1/\n1/\n1/\n1/\n1/\n1/\n1/\n1/\n1/\n1/\n1/\n1/\n1/\n1/\n1/\n1/\n1/\n1/\n1/\n1/\n1/\n1/\n1/\n1/\n1/\n1/\n1/\n1/\n1/\n1/\n1/\n1/\n1/\n1/\n1/\n1/\n1/\n1/\n1/\n1/\n1/\n1/\n1/\n1/\n1/\n1/\n1/\n1/\n1/\n1/\n1/\n1/\n1/\n1/\n1/\n1/\n1/\n1/\n1/\n1/\n1/\n1/\n1/\n1/\n1/\n1/\n1/\n1/\n1/\n1/\n1/\n1/\n1/\n1/\n1/\n1/\n1/\n1/\n1/\n1/\n1/\n1/\n1/\n1/\n1/\n1/\n1/\n1/\n1/\n1/\n1/\n1/\n1/\n1/\n1/\n1/\n1/\n1/\n1/\n1/\n1/\n1/\n1/\n1/\n1/\n1/\n1/\n1/\n1/\n1/\n1/\n1/\n1/\n1/\n1/\n1/\n1/\n1/\n1/\n1/\n1/\n1/\n1/\n1/\n1/\n1/\n1/\n1/\n1/\n1/\n1/\n1/\n1/\n1/\n1/\n1/\n1/\n1/\n1/\n1/\n1/\n1/\n1/\n1/\n1/\n1/\n1/\n1/\n1/\n1/\n1/\n1/\n1/\n1/\n1/\n1/\n1/\n1/\n1/\n1/\n1/\n1/\n1/\n1/\n1/\n1/\n1/\n1/\n1/\n1/\n1/\n1/\n1/\n1/\n1/\n1/\n1/\n1/\n1/\n1/\n1/\n1/\n1/\n1/\n1/\n1/\n1/\n1/\n1/\n1/\n1/\n1/\n1/\n1/\n1/\n1/\n1/\n1/\n1/\n1/\n1/\n1/\n1/\n1/\n1/\n1/\n1/\n1/\n1/\n1/\n1/\n1/\n1/\n1/\n1/\n1/\n1/\n1/\n1/\n1/\n1/\n1/\n1/\n1/\n1/\n1/\n1/\n1/\n1/\n1/\n1/\n1/\n1/\n1/\n1/\n1/\n1/\n1/\n1/\n1/\n1/\n1/\n1/\n1/\n1/\n1/\n1/\n1/\n1/\n1/\n1/\n1/\n1/\n1/\n1/\n1/\n1/\n1/\n1/\n1/\n1/\n1/\n1/\n1/\n1/\n1/\n1/\n1/\n1/\n1/\n1/\n1/\n1/\n1/\n1/\n1/\n1/\n1/\n1/\n1/\n1/\n1/\n1/\n1/\n1/\n1/\n1/\n\n" (no 5 683) ∷
    parse "/y" (no 1 0) ∷
    parse "NIDN/DE/121231234342\n1/M\u{7f}NN GEORG\n6/DE/N/DE/121231234342\n1/M\u{7f}NN GEORG\n6/DE/ABC BANK/1234578293" (no 3 2) ∷
    parse "NIN/DE/21231234342\n1/MANN GEORG\n6/DE/ABC BANK/1234578293" (ok Field50F (some "NIN/DE/21231234342") "" ("MANN GEORG" ∷ "DE/ABC BANK/1234578293" ∷ []) ":50F:NIN/DE/21231234342\n1/MANN GEORG\n2/DE/ABC BANK/1234578293") ∷
    parse "ABCDEFGHIJKLMNOPQRSTUVW\tXYZ0^234567\n1/A" (no 3 1) ∷
    parse "X\n1/ABCDEFGHIJKLMNOPQ=STUVWXYZ02345\n2/ABCDEFGHIJKLMNOPQRS/TUVWXYZ012345\n3/.$\n" (ok Field50F (some "X") "" ("ABCDEFGHIJKLMNOPQ=STUVWXYZ02345" ∷ "ABCDEFGHIJKLMNOPQRS/TUVWXYZ012345" ∷ ".$" ∷ []) ":50F:X\n1/ABCDEFGHIJKLMNOPQ=STUVWXYZ02345\n2/ABCDEFGHIJKLMNOPQRS/TUVWXYZ012345\n3/.$") ∷
    parse "NIDN/DE/1212" (no 1 0) ∷
    parse "Xb \n1/[,\n2/ABCDEFGH\u{1c}IJKLMNlPQRSTUVWXYZ0123456\n3" (no 4 3) ∷
    parse "X\" &'%\n1/;*'\n2/\"\n3/ABCDEFGHIJKLMNOPQRSTUVWXYZ0123456\n4/ABCDEFGHIJKLMNOPQRSTUVWXYZ012345\n" (ok Field50F (some "X\" &'%") "" (";*'" ∷ "\"" ∷ "ABCDEFGHIJKLMNOPQRSTUVWXYZ0123456" ∷ "ABCDEFGHIJKLMNOPQRSTUVWXYZ012345" ∷ []) ":50F:X\" &'%\n1/;*'\n2/\"\n3/ABCDEFGHIJKLMNOPQRSTUVWXYZ0123456\n4/ABCDEFGHIJKLMNOPQRSTUVWXYZ012345") ∷
    parse "X\n1/ABCDEFGHIJKLMNOPQRSTUVWXYZ0123456\n2/=B(z.\n3/\n4/B|A9+" (ok Field50F (some "X") "" ("ABCDEFGHIJKLMNOPQRSTUVWXYZ0123456" ∷ "=B(z." ∷ "" ∷ "B|A9+" ∷ []) ":50F:X\n1/ABCDEFGHIJKLMNOPQRSTUVWXYZ0123456\n2/=B(z.\n3/\n4/B|A9+") ∷
    parse "/GB82WEST1234569865432\n1\tJOHN SMITH\n-2/456 AVENUE\n3/GB/LONDON" (no 5 2) ∷
    parse "/GA82WEST12\n345698765432\n1/JOHN SMITH\n2/456 AVENUE\n3/GB/LONDON" (no 5 2) ∷
    parse "ABCDEFGHIJKLMNOPQRSTUVWXYZ012345678\n1\rVWXYZ012345678\n1~/A" (no 5 2) ∷
    parse "X/C&>\n\"/]\n2/\n&>\n1/]\n2/\n" (no 5 2) ∷
    parse "X(!Cx$\n1/|[!\n2/8B+b\n3/" (ok Field50F (some "X(!Cx$") "" ("|[!" ∷ "8B+b" ∷ "" ∷ []) ":50F:X(!Cx$\n1/|[!\n2/8B+b\n3/") ∷
    parse "XY]A\n1/ABCDEFGHIJKLMNOPQRSTUVWXYZ0123456\n2/$&A#9B\n3/?>%1y" (ok Field50F (some "XY]A") "" ("ABCDEFGHIJKLMNOPQRSTUVWXYZ0123456" ∷ "$&A#9B" ∷ "?>%1y" ∷ []) ":50F:XY]A\n1/ABCDEFGHIJKLMNOPQRSTUVWXYZ0123456\n2/$&A#9B\n3/?>%1y") ∷
    parse "X\n1/A\n2/A\n\u{17}/A\n4\u{7f}/A" (no 5 4) ∷
    parse "X\n1/ABCDEFG1IJKLMNOPQRSTUVWXYZ0123456" (ok Field50F (some "X") "" ("ABCDEFG1IJKLMNOPQRSTUVWXYZ0123456" ∷ []) ":50F:X\n1/ABCDEFG1IJKLMNOPQRSTUVWXYZ0123456") ∷
    parse "/_:_Z=(\n\n//Z.\nABCDEFGHIJKLMNOPQRSTUVWXYZ0123456789\n\n" (no 5 2) ∷
    parse "<\r0/8_@\n2/ABCDEFGHIJKLMNOPQRSTUVWXYZ012345" (ok Field50F (some "<\r0/8_@") "" ("ABCDEFGHIJKLMNOPQRSTUVWXYZ012345" ∷ []) ":50F:<\r0/8_@\n1/ABCDEFGHIJKLMNOPQRSTUVWXYZ012345") ∷
    parse "\r\n1/<" (no 2 1) ∷
    parse "NIDN/DE/12123\r23432\n1/MANN GEORG\n6/DE/ABC BANK/1234578293" (ok Field50F (some "NIDN/DE/12123\r23432") "" ("MANN GEORG" ∷ "DE/ABC BANK/1234578293" ∷ []) ":50F:NIDN/DE/12123\r23432\n1/MANN GEORG\n2/DE/ABC BANK/1234578293") ∷
    parse "XABCDEFGHIJKLMNOPQRSTUVWXYZ0123456\r\n1/%&\r\n/2/Z\r\n" (no 5 3) ∷
    []

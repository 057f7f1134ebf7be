-- Made of crates/replay/stdin by tests/rust/listed: the cases of Field59.
use Rattle.std.specs.Prelude.{List, [], ◌∷◌}
use Rattle.std.proofs.Math.Option.{none, some}
use Rattle.party.specs.declared.PartyOption.TheVariants.{Field59NoOption, Field59A, Field59F}
use Rattle.swift_mt_message.specs.Cases.{Case, parse, without, by, ok, no}

abbrev pub cases : List Case
cases =
    by "A" "" (no 1 0) ∷
    by "A" "/~\nABCDEFGH" (no 3 1) ∷
    by "A" "/A" (no 8 0) ∷
    by "A" "ABCDEFG" (no 9 1) ∷
    by "A" "/1\nABCDEFG" (no 9 2) ∷
    by "A" "1BCDEFGH" (no 10 1) ∷
    by "A" "/1\n1BCDEFGH" (no 10 2) ∷
    by "F" "" (no 1 0) ∷
    by "F" "//\n1/A" (no 2 1) ∷
    by "F" "1/~\n~" (no 3 1) ∷
    by "F" "1/A\n2/~\n~" (no 3 2) ∷
    by "F" "1/A\n2/A\n3/~\n~" (no 3 3) ∷
    by "F" "1/A\n2/A\n3/A\n4/~\n~" (no 3 4) ∷
    by "F" "1/A\n2/A\n3/A\n4/A\n5/~\n~" (no 3 5) ∷
    by "F" "1/A\n2/A\n3/A\n4/A\n5/A\n6/~\n~" (no 3 6) ∷
    by "F" "1/A\n2/A\n3/A\n4/A\n5/A\n6/A\n7/~\n~" (no 3 7) ∷
    by "F" "1/A\n2/A\n3/A\n4/A\n5/A\n6/A\n7/A\n8/~\n~" (no 3 8) ∷
    by "F" "1/A\n2/A\n3/A\n4/A\n5/A\n6/A\n7/A\n8/A\n9/~\n~" (no 3 9) ∷
    by "F" "/A\n1/A\n2/A\n3/A\n4/A\n5/A\n6/A\n7/A\n8/A\n9/~\n~" (no 3 10) ∷
    by "F" "1/ABCDEFGHIJKLMNOPQRSTUVWXYZ01234567\n~" (no 4 1) ∷
    by "F" "1/A\n2/ABCDEFGHIJKLMNOPQRSTUVWXYZ01234567\n~" (no 4 2) ∷
    by "F" "1/A\n2/A\n3/ABCDEFGHIJKLMNOPQRSTUVWXYZ01234567\n~" (no 4 3) ∷
    by "F" "1/A\n2/A\n3/A\n4/ABCDEFGHIJKLMNOPQRSTUVWXYZ01234567\n~" (no 4 4) ∷
    by "F" "1/A\n2/A\n3/A\n4/A\n5/ABCDEFGHIJKLMNOPQRSTUVWXYZ01234567\n~" (no 4 5) ∷
    by "F" "1/A\n2/A\n3/A\n4/A\n5/A\n6/ABCDEFGHIJKLMNOPQRSTUVWXYZ01234567\n~" (no 4 6) ∷
    by "F" "1/A\n2/A\n3/A\n4/A\n5/A\n6/A\n7/ABCDEFGHIJKLMNOPQRSTUVWXYZ01234567\n~" (no 4 7) ∷
    by "F" "1/A\n2/A\n3/A\n4/A\n5/A\n6/A\n7/A\n8/ABCDEFGHIJKLMNOPQRSTUVWXYZ01234567\n~" (no 4 8) ∷
    by "F" "1/A\n2/A\n3/A\n4/A\n5/A\n6/A\n7/A\n8/A\n9/ABCDEFGHIJKLMNOPQRSTUVWXYZ01234567\n~" (no 4 9) ∷
    by "F" "/A\n1/A\n2/A\n3/A\n4/A\n5/A\n6/A\n7/A\n8/A\n9/ABCDEFGHIJKLMNOPQRSTUVWXYZ01234567\n~" (no 4 10) ∷
    by "F" "A\n~" (no 5 1) ∷
    by "F" "1/A\nA\n~" (no 5 2) ∷
    by "F" "1/A\n2/A\nA\n~" (no 5 3) ∷
    by "F" "1/A\n2/A\n3/A\nA\n~" (no 5 4) ∷
    by "F" "1/A\n2/A\n3/A\n4/A\nA\n~" (no 5 5) ∷
    by "F" "1/A\n2/A\n3/A\n4/A\n5/A\nA\n~" (no 5 6) ∷
    by "F" "1/A\n2/A\n3/A\n4/A\n5/A\n6/A\nA\n~" (no 5 7) ∷
    by "F" "1/A\n2/A\n3/A\n4/A\n5/A\n6/A\n7/A\nA\n~" (no 5 8) ∷
    by "F" "1/A\n2/A\n3/A\n4/A\n5/A\n6/A\n7/A\n8/A\nA\n~" (no 5 9) ∷
    by "F" "1/A\n2/A\n3/A\n4/A\n5/A\n6/A\n7/A\n8/A\n9/A\nA\n~" (no 5 10) ∷
    by "F" "/A\n1/A\n2/A\n3/A\n4/A\n5/A\n6/A\n7/A\n8/A\n9/A\nA\n~" (no 5 11) ∷
    by "F" "0/A\n~" (no 6 1) ∷
    by "F" "1/A\n0/A\n~" (no 6 2) ∷
    by "F" "1/A\n2/A\n0/A\n~" (no 6 3) ∷
    by "F" "1/A\n2/A\n3/A\n0/A\n~" (no 6 4) ∷
    by "F" "1/A\n2/A\n3/A\n4/A\n0/A\n~" (no 6 5) ∷
    by "F" "1/A\n2/A\n3/A\n4/A\n5/A\n0/A\n~" (no 6 6) ∷
    by "F" "1/A\n2/A\n3/A\n4/A\n5/A\n6/A\n0/A\n~" (no 6 7) ∷
    by "F" "1/A\n2/A\n3/A\n4/A\n5/A\n6/A\n7/A\n0/A\n~" (no 6 8) ∷
    by "F" "1/A\n2/A\n3/A\n4/A\n5/A\n6/A\n7/A\n8/A\n0/A\n~" (no 6 9) ∷
    by "F" "1/A\n2/A\n3/A\n4/A\n5/A\n6/A\n7/A\n8/A\n9/A\n0/A\n~" (no 6 10) ∷
    by "F" "/A\n1/A\n2/A\n3/A\n4/A\n5/A\n6/A\n7/A\n8/A\n9/A\n0/A\n~" (no 6 11) ∷
    by "F" "/A" (no 7 0) ∷
    without "" (no 1 0) ∷
    without "~\n~" (no 3 1) ∷
    without "A\n~\n~" (no 3 2) ∷
    without "A\nA\n~\n~" (no 3 3) ∷
    without "A\nA\nA\n~\n~" (no 3 4) ∷
    without "A\nA\nA\nA\n~\n~" (no 3 5) ∷
    without "A\nA\nA\nA\nA\n~\n~" (no 3 6) ∷
    without "A\nA\nA\nA\nA\nA\n~\n~" (no 3 7) ∷
    without "A\nA\nA\nA\nA\nA\nA\n~\n~" (no 3 8) ∷
    without "A\nA\nA\nA\nA\nA\nA\nA\n~\n~" (no 3 9) ∷
    without "A\nA\nA\nA\nA\nA\nA\nA\nA\n~\n~" (no 3 10) ∷
    without "A\nA\nA\nA\nA\nA\nA\nA\nA\nA\n~\n~" (no 3 11) ∷
    without "A\nA\nA\nA\nA\nA\nA\nA\nA\nA\nA\nA\nA\nA\nA\nA\nA\nA\nA\nA\nA\nA\nA\nA\nA\nA\nA\nA\nA\nA\nA\nA\nA\nA\nA\nA\nA\nA\nA\n~\n~" (no 3 40) ∷
    without "ABCDEFGHIJKLMNOPQRSTUVWXYZ0123456789\n~" (no 4 1) ∷
    without "A\nABCDEFGHIJKLMNOPQRSTUVWXYZ0123456789\n~" (no 4 2) ∷
    without "A\nA\nABCDEFGHIJKLMNOPQRSTUVWXYZ0123456789\n~" (no 4 3) ∷
    without "A\nA\nA\nABCDEFGHIJKLMNOPQRSTUVWXYZ0123456789\n~" (no 4 4) ∷
    without "A\nA\nA\nA\nABCDEFGHIJKLMNOPQRSTUVWXYZ0123456789\n~" (no 4 5) ∷
    without "A\nA\nA\nA\nA\nABCDEFGHIJKLMNOPQRSTUVWXYZ0123456789\n~" (no 4 6) ∷
    without "A\nA\nA\nA\nA\nA\nABCDEFGHIJKLMNOPQRSTUVWXYZ0123456789\n~" (no 4 7) ∷
    without "A\nA\nA\nA\nA\nA\nA\nABCDEFGHIJKLMNOPQRSTUVWXYZ0123456789\n~" (no 4 8) ∷
    without "A\nA\nA\nA\nA\nA\nA\nA\nABCDEFGHIJKLMNOPQRSTUVWXYZ0123456789\n~" (no 4 9) ∷
    without "A\nA\nA\nA\nA\nA\nA\nA\nA\nABCDEFGHIJKLMNOPQRSTUVWXYZ0123456789\n~" (no 4 10) ∷
    without "A\nA\nA\nA\nA\nA\nA\nA\nA\nA\nABCDEFGHIJKLMNOPQRSTUVWXYZ0123456789\n~" (no 4 11) ∷
    without "A\nA\nA\nA\nA\nA\nA\nA\nA\nA\nA\nA\nA\nA\nA\nA\nA\nA\nA\nA\nA\nA\nA\nA\nA\nA\nA\nA\nA\nA\nA\nA\nA\nA\nA\nA\nA\nA\nA\nABCDEFGHIJKLMNOPQRSTUVWXYZ0123456789\n~" (no 4 40) ∷
    without "/A" (no 7 0) ∷
    parse "ABCDEFGH" (ok Field59A none "ABCDEFGH" [] ":59A:ABCDEFGH") ∷
    parse "" (no 11 0) ∷
    parse "~" (no 11 0) ∷
    parse "/~\n~" (no 11 0) ∷
    parse "/GB82WEST12345698765432\nDEUTDEFF" (ok Field59A (some "GB82WEST12345698765432") "DEUTDEFF" [] ":59A:/GB82WEST12345698765432\nDEUTDEFF") ∷
    parse "DEUTDEFF500\nNOT READ" (ok Field59A none "DEUTDEFF500" [] ":59A:DEUTDEFF500") ∷
    parse "1/A\n2/B" (ok Field59F none "" ("1/A" ∷ "2/B" ∷ []) ":59F:1/A\n2/B") ∷
    parse "/12345678\n1/DEPT OF PROMOTION\n2/CENTURY BOULEVARD 88\n3/US/NEW YORK" (ok Field59F (some "12345678") "" ("1/DEPT OF PROMOTION" ∷ "2/CENTURY BOULEVARD 88" ∷ "3/US/NEW YORK" ∷ []) ":59F:/12345678\n\n1/DEPT OF PROMOTION\n2/CENTURY BOULEVARD 88\n3/US/NEW YORK") ∷
    parse "1/JOHN SMITH\n2/AVENUE 7\n3/GB/LONDON\n4/EXTRA" (ok Field59F none "" ("1/JOHN SMITH" ∷ "2/AVENUE 7" ∷ "3/GB/LONDON" ∷ "4/EXTRA" ∷ []) ":59F:1/JOHN SMITH\n2/AVENUE 7\n3/GB/LONDON\n4/EXTRA") ∷
    parse "A\nB" (ok Field59NoOption none "" ("A" ∷ "B" ∷ []) ":59:A\nB") ∷
    parse "/GB82WEST12345698765432\nJOHN SMITH\n456 AVENUE" (ok Field59NoOption (some "GB82WEST12345698765432") "" ("JOHN SMITH" ∷ "456 AVENUE" ∷ []) ":59:/GB82WEST12345698765432\nJOHN SMITH\n456 AVENUE") ∷
    parse "JOHN SMITH\n456 AVENUE\nLONDON\nGB" (ok Field59NoOption none "" ("JOHN SMITH" ∷ "456 AVENUE" ∷ "LONDON" ∷ "GB" ∷ []) ":59:JOHN SMITH\n456 AVENUE\nLONDON\nGB") ∷
    without "ABCDEFGH" (ok Field59NoOption none "" ("ABCDEFGH" ∷ []) ":59:ABCDEFGH") ∷
    without "~" (no 3 1) ∷
    without "/~\n~" (no 3 1) ∷
    without "/GB82WEST12345698765432\nDEUTDEFF" (ok Field59NoOption (some "GB82WEST12345698765432") "" ("DEUTDEFF" ∷ []) ":59:/GB82WEST12345698765432\nDEUTDEFF") ∷
    without "DEUTDEFF500\nNOT READ" (ok Field59NoOption none "" ("DEUTDEFF500" ∷ "NOT READ" ∷ []) ":59:DEUTDEFF500\nNOT READ") ∷
    without "1/A\n2/B" (ok Field59NoOption none "" ("1/A" ∷ "2/B" ∷ []) ":59:1/A\n2/B") ∷
    without "/12345678\n1/DEPT OF PROMOTION\n2/CENTURY BOULEVARD 88\n3/US/NEW YORK" (ok Field59NoOption (some "12345678") "" ("1/DEPT OF PROMOTION" ∷ "2/CENTURY BOULEVARD 88" ∷ "3/US/NEW YORK" ∷ []) ":59:/12345678\n1/DEPT OF PROMOTION\n2/CENTURY BOULEVARD 88\n3/US/NEW YORK") ∷
    without "1/JOHN SMITH\n2/AVENUE 7\n3/GB/LONDON\n4/EXTRA" (ok Field59NoOption none "" ("1/JOHN SMITH" ∷ "2/AVENUE 7" ∷ "3/GB/LONDON" ∷ "4/EXTRA" ∷ []) ":59:1/JOHN SMITH\n2/AVENUE 7\n3/GB/LONDON\n4/EXTRA") ∷
    without "A\nB" (ok Field59NoOption none "" ("A" ∷ "B" ∷ []) ":59:A\nB") ∷
    without "/GB82WEST12345698765432\nJOHN SMITH\n456 AVENUE" (ok Field59NoOption (some "GB82WEST12345698765432") "" ("JOHN SMITH" ∷ "456 AVENUE" ∷ []) ":59:/GB82WEST12345698765432\nJOHN SMITH\n456 AVENUE") ∷
    without "JOHN SMITH\n456 AVENUE\nLONDON\nGB" (ok Field59NoOption none "" ("JOHN SMITH" ∷ "456 AVENUE" ∷ "LONDON" ∷ "GB" ∷ []) ":59:JOHN SMITH\n456 AVENUE\nLONDON\nGB") ∷
    by "A" "ABCDEFGH" (ok Field59A none "ABCDEFGH" [] ":59A:ABCDEFGH") ∷
    by "A" "~" (no 9 1) ∷
    by "A" "/~\n~" (no 3 1) ∷
    by "A" "/GB82WEST12345698765432\nDEUTDEFF" (ok Field59A (some "GB82WEST12345698765432") "DEUTDEFF" [] ":59A:/GB82WEST12345698765432\nDEUTDEFF") ∷
    by "A" "DEUTDEFF500\nNOT READ" (ok Field59A none "DEUTDEFF500" [] ":59A:DEUTDEFF500") ∷
    by "A" "1/A\n2/B" (no 9 1) ∷
    by "A" "/12345678\n1/DEPT OF PROMOTION\n2/CENTURY BOULEVARD 88\n3/US/NEW YORK" (no 9 2) ∷
    by "A" "1/JOHN SMITH\n2/AVENUE 7\n3/GB/LONDON\n4/EXTRA" (no 9 1) ∷
    by "A" "A\nB" (no 9 1) ∷
    by "A" "/GB82WEST12345698765432\nJOHN SMITH\n456 AVENUE" (no 9 2) ∷
    by "A" "JOHN SMITH\n456 AVENUE\nLONDON\nGB" (no 9 1) ∷
    by "F" "ABCDEFGH" (no 5 1) ∷
    by "F" "~" (no 5 1) ∷
    by "F" "/~\n~" (no 3 1) ∷
    by "F" "/GB82WEST12345698765432\nDEUTDEFF" (no 5 2) ∷
    by "F" "DEUTDEFF500\nNOT READ" (no 5 1) ∷
    by "F" "1/A\n2/B" (ok Field59F none "" ("1/A" ∷ "2/B" ∷ []) ":59F:1/A\n2/B") ∷
    by "F" "/12345678\n1/DEPT OF PROMOTION\n2/CENTURY BOULEVARD 88\n3/US/NEW YORK" (ok Field59F (some "12345678") "" ("1/DEPT OF PROMOTION" ∷ "2/CENTURY BOULEVARD 88" ∷ "3/US/NEW YORK" ∷ []) ":59F:/12345678\n\n1/DEPT OF PROMOTION\n2/CENTURY BOULEVARD 88\n3/US/NEW YORK") ∷
    by "F" "1/JOHN SMITH\n2/AVENUE 7\n3/GB/LONDON\n4/EXTRA" (ok Field59F none "" ("1/JOHN SMITH" ∷ "2/AVENUE 7" ∷ "3/GB/LONDON" ∷ "4/EXTRA" ∷ []) ":59F:1/JOHN SMITH\n2/AVENUE 7\n3/GB/LONDON\n4/EXTRA") ∷
    by "F" "A\nB" (no 5 1) ∷
    by "F" "/GB82WEST12345698765432\nJOHN SMITH\n456 AVENUE" (no 5 2) ∷
    by "F" "JOHN SMITH\n456 AVENUE\nLONDON\nGB" (no 5 1) ∷
    by "B" "ABCDEFGH" (ok Field59A none "ABCDEFGH" [] ":59A:ABCDEFGH") ∷
    by "C" "ABCDEFGH" (ok Field59A none "ABCDEFGH" [] ":59A:ABCDEFGH") ∷
    by "G" "ABCDEFGH" (ok Field59A none "ABCDEFGH" [] ":59A:ABCDEFGH") ∷
    by "H" "ABCDEFGH" (ok Field59A none "ABCDEFGH" [] ":59A:ABCDEFGH") ∷
    by "K" "ABCDEFGH" (ok Field59A none "ABCDEFGH" [] ":59A:ABCDEFGH") ∷
    by "L" "ABCDEFGH" (ok Field59A none "ABCDEFGH" [] ":59A:ABCDEFGH") ∷
    by "Y" "ABCDEFGH" (ok Field59A none "ABCDEFGH" [] ":59A:ABCDEFGH") ∷
    by "Z" "ABCDEFGH" (ok Field59A none "ABCDEFGH" [] ":59A:ABCDEFGH") ∷
    by "B" "" (no 11 0) ∷
    by "B" "~" (no 11 0) ∷
    by "B" "/~\n~" (no 11 0) ∷
    by "B" "/GB82WEST12345698765432\nDEUTDEFF" (ok Field59A (some "GB82WEST12345698765432") "DEUTDEFF" [] ":59A:/GB82WEST12345698765432\nDEUTDEFF") ∷
    by "B" "DEUTDEFF500\nNOT READ" (ok Field59A none "DEUTDEFF500" [] ":59A:DEUTDEFF500") ∷
    by "B" "1/A\n2/B" (ok Field59F none "" ("1/A" ∷ "2/B" ∷ []) ":59F:1/A\n2/B") ∷
    by "B" "/12345678\n1/DEPT OF PROMOTION\n2/CENTURY BOULEVARD 88\n3/US/NEW YORK" (ok Field59F (some "12345678") "" ("1/DEPT OF PROMOTION" ∷ "2/CENTURY BOULEVARD 88" ∷ "3/US/NEW YORK" ∷ []) ":59F:/12345678\n\n1/DEPT OF PROMOTION\n2/CENTURY BOULEVARD 88\n3/US/NEW YORK") ∷
    by "B" "1/JOHN SMITH\n2/AVENUE 7\n3/GB/LONDON\n4/EXTRA" (ok Field59F none "" ("1/JOHN SMITH" ∷ "2/AVENUE 7" ∷ "3/GB/LONDON" ∷ "4/EXTRA" ∷ []) ":59F:1/JOHN SMITH\n2/AVENUE 7\n3/GB/LONDON\n4/EXTRA") ∷
    by "B" "A\nB" (ok Field59NoOption none "" ("A" ∷ "B" ∷ []) ":59:A\nB") ∷
    by "B" "/GB82WEST12345698765432\nJOHN SMITH\n456 AVENUE" (ok Field59NoOption (some "GB82WEST12345698765432") "" ("JOHN SMITH" ∷ "456 AVENUE" ∷ []) ":59:/GB82WEST12345698765432\nJOHN SMITH\n456 AVENUE") ∷
    by "B" "JOHN SMITH\n456 AVENUE\nLONDON\nGB" (ok Field59NoOption none "" ("JOHN SMITH" ∷ "456 AVENUE" ∷ "LONDON" ∷ "GB" ∷ []) ":59:JOHN SMITH\n456 AVENUE\nLONDON\nGB") ∷
    by "a" "ABCDEFGH" (ok Field59A none "ABCDEFGH" [] ":59A:ABCDEFGH") ∷
    by "c" "ABCDEFGH" (ok Field59A none "ABCDEFGH" [] ":59A:ABCDEFGH") ∷
    by "f" "ABCDEFGH" (ok Field59A none "ABCDEFGH" [] ":59A:ABCDEFGH") ∷
    by "z" "ABCDEFGH" (ok Field59A none "ABCDEFGH" [] ":59A:ABCDEFGH") ∷
    by "0" "ABCDEFGH" (ok Field59A none "ABCDEFGH" [] ":59A:ABCDEFGH") ∷
    by "5" "ABCDEFGH" (ok Field59A none "ABCDEFGH" [] ":59A:ABCDEFGH") ∷
    by "9" "ABCDEFGH" (ok Field59A none "ABCDEFGH" [] ":59A:ABCDEFGH") ∷
    by "\u{1}" "ABCDEFGH" (ok Field59A none "ABCDEFGH" [] ":59A:ABCDEFGH") ∷
    by "\t" "ABCDEFGH" (ok Field59A none "ABCDEFGH" [] ":59A:ABCDEFGH") ∷
    by "\n" "ABCDEFGH" (ok Field59A none "ABCDEFGH" [] ":59A:ABCDEFGH") ∷
    by " " "ABCDEFGH" (ok Field59A none "ABCDEFGH" [] ":59A:ABCDEFGH") ∷
    by "/" "ABCDEFGH" (ok Field59A none "ABCDEFGH" [] ":59A:ABCDEFGH") ∷
    by ":" "ABCDEFGH" (ok Field59A none "ABCDEFGH" [] ":59A:ABCDEFGH") ∷
    by "@" "ABCDEFGH" (ok Field59A none "ABCDEFGH" [] ":59A:ABCDEFGH") ∷
    by "[" "ABCDEFGH" (ok Field59A none "ABCDEFGH" [] ":59A:ABCDEFGH") ∷
    by "`" "ABCDEFGH" (ok Field59A none "ABCDEFGH" [] ":59A:ABCDEFGH") ∷
    by "{" "ABCDEFGH" (ok Field59A none "ABCDEFGH" [] ":59A:ABCDEFGH") ∷
    by "~" "ABCDEFGH" (ok Field59A none "ABCDEFGH" [] ":59A:ABCDEFGH") ∷
    by "\u{7f}" "ABCDEFGH" (ok Field59A none "ABCDEFGH" [] ":59A:ABCDEFGH") ∷
    parse "/1" (no 11 0) ∷
    parse "/1\nA" (ok Field59NoOption (some "1") "" ("A" ∷ []) ":59:/1\nA") ∷
    parse "/1\nABCDEFG" (ok Field59NoOption (some "1") "" ("ABCDEFG" ∷ []) ":59:/1\nABCDEFG") ∷
    parse "/1\nABCDEFGH" (ok Field59A (some "1") "ABCDEFGH" [] ":59A:/1\nABCDEFGH") ∷
    parse "/1\nABCDEFGHI" (ok Field59NoOption (some "1") "" ("ABCDEFGHI" ∷ []) ":59:/1\nABCDEFGHI") ∷
    parse "/1\nABCDEFGHIJ" (ok Field59NoOption (some "1") "" ("ABCDEFGHIJ" ∷ []) ":59:/1\nABCDEFGHIJ") ∷
    parse "/1\nABCDEFGHIJK" (ok Field59A (some "1") "ABCDEFGHIJK" [] ":59A:/1\nABCDEFGHIJK") ∷
    parse "/1\nABCDEFGHIJKL" (ok Field59NoOption (some "1") "" ("ABCDEFGHIJKL" ∷ []) ":59:/1\nABCDEFGHIJKL") ∷
    parse "/A" (no 11 0) ∷
    parse "/A\nA" (ok Field59NoOption (some "A") "" ("A" ∷ []) ":59:/A\nA") ∷
    parse "/A\nABCDEFGH" (ok Field59A (some "A") "ABCDEFGH" [] ":59A:/A\nABCDEFGH") ∷
    parse "/A\n1/A" (ok Field59F (some "A") "" ("1/A" ∷ []) ":59F:/A\n\n1/A") ∷
    parse "/A\nA\nB" (ok Field59NoOption (some "A") "" ("A" ∷ "B" ∷ []) ":59:/A\nA\nB") ∷
    parse "/A\nA\n1/A" (ok Field59NoOption (some "A") "" ("A" ∷ "1/A" ∷ []) ":59:/A\nA\n1/A") ∷
    parse "/A\n1/A\nA" (ok Field59NoOption (some "A") "" ("1/A" ∷ "A" ∷ []) ":59:/A\n1/A\nA") ∷
    parse "/A\n1/A\n1/B" (ok Field59NoOption (some "A") "" ("1/A" ∷ "1/B" ∷ []) ":59:/A\n1/A\n1/B") ∷
    parse "A" (ok Field59NoOption none "" ("A" ∷ []) ":59:A") ∷
    parse "A\nA" (ok Field59NoOption none "" ("A" ∷ "A" ∷ []) ":59:A\nA") ∷
    parse "A\nABCDEFGH" (ok Field59NoOption none "" ("A" ∷ "ABCDEFGH" ∷ []) ":59:A\nABCDEFGH") ∷
    parse "A\n1/A" (ok Field59NoOption none "" ("A" ∷ "1/A" ∷ []) ":59:A\n1/A") ∷
    parse "A\nA\nB" (ok Field59NoOption none "" ("A" ∷ "A" ∷ "B" ∷ []) ":59:A\nA\nB") ∷
    parse "A\nA\n1/A" (ok Field59NoOption none "" ("A" ∷ "A" ∷ "1/A" ∷ []) ":59:A\nA\n1/A") ∷
    parse "A\n1/A\nA" (ok Field59NoOption none "" ("A" ∷ "1/A" ∷ "A" ∷ []) ":59:A\n1/A\nA") ∷
    parse "A\n1/A\n1/B" (ok Field59NoOption none "" ("A" ∷ "1/A" ∷ "1/B" ∷ []) ":59:A\n1/A\n1/B") ∷
    parse "\rABCDEFGH" (ok Field59NoOption none "" ("\rABCDEFGH" ∷ []) ":59:\rABCDEFGH") ∷
    parse "A\rBCDEFGH" (ok Field59NoOption none "" ("A\rBCDEFGH" ∷ []) ":59:A\rBCDEFGH") ∷
    parse "AB\rCDEFGH" (ok Field59NoOption none "" ("AB\rCDEFGH" ∷ []) ":59:AB\rCDEFGH") ∷
    parse "ABC\rDEFGH" (ok Field59NoOption none "" ("ABC\rDEFGH" ∷ []) ":59:ABC\rDEFGH") ∷
    parse "ABCD\rEFGH" (ok Field59NoOption none "" ("ABCD\rEFGH" ∷ []) ":59:ABCD\rEFGH") ∷
    parse "ABCDE\rFGH" (ok Field59NoOption none "" ("ABCDE\rFGH" ∷ []) ":59:ABCDE\rFGH") ∷
    parse "ABCDEF\rGH" (ok Field59NoOption none "" ("ABCDEF\rGH" ∷ []) ":59:ABCDEF\rGH") ∷
    parse "ABCDEFG\rH" (ok Field59NoOption none "" ("ABCDEFG\rH" ∷ []) ":59:ABCDEFG\rH") ∷
    parse "ABCDEFGH\r" (ok Field59NoOption none "" ("ABCDEFGH\r" ∷ []) ":59:ABCDEFGH\r") ∷
    parse "\nABCDEFGH" (ok Field59NoOption none "" ("" ∷ "ABCDEFGH" ∷ []) ":59:\nABCDEFGH") ∷
    parse "A\nBCDEFGH" (ok Field59NoOption none "" ("A" ∷ "BCDEFGH" ∷ []) ":59:A\nBCDEFGH") ∷
    parse "AB\nCDEFGH" (ok Field59NoOption none "" ("AB" ∷ "CDEFGH" ∷ []) ":59:AB\nCDEFGH") ∷
    parse "ABC\nDEFGH" (ok Field59NoOption none "" ("ABC" ∷ "DEFGH" ∷ []) ":59:ABC\nDEFGH") ∷
    parse "ABCD\nEFGH" (ok Field59NoOption none "" ("ABCD" ∷ "EFGH" ∷ []) ":59:ABCD\nEFGH") ∷
    parse "ABCDE\nFGH" (ok Field59NoOption none "" ("ABCDE" ∷ "FGH" ∷ []) ":59:ABCDE\nFGH") ∷
    parse "ABCDEF\nGH" (ok Field59NoOption none "" ("ABCDEF" ∷ "GH" ∷ []) ":59:ABCDEF\nGH") ∷
    parse "ABCDEFG\nH" (ok Field59NoOption none "" ("ABCDEFG" ∷ "H" ∷ []) ":59:ABCDEFG\nH") ∷
    parse "ABCDEFGH\n" (ok Field59A none "ABCDEFGH" [] ":59A:ABCDEFGH") ∷
    parse "\r\nABCDEFGH" (ok Field59NoOption none "" ("" ∷ "ABCDEFGH" ∷ []) ":59:\nABCDEFGH") ∷
    parse "A\r\nBCDEFGH" (ok Field59NoOption none "" ("A" ∷ "BCDEFGH" ∷ []) ":59:A\nBCDEFGH") ∷
    parse "AB\r\nCDEFGH" (ok Field59NoOption none "" ("AB" ∷ "CDEFGH" ∷ []) ":59:AB\nCDEFGH") ∷
    parse "ABC\r\nDEFGH" (ok Field59NoOption none "" ("ABC" ∷ "DEFGH" ∷ []) ":59:ABC\nDEFGH") ∷
    parse "ABCD\r\nEFGH" (ok Field59NoOption none "" ("ABCD" ∷ "EFGH" ∷ []) ":59:ABCD\nEFGH") ∷
    parse "ABCDE\r\nFGH" (ok Field59NoOption none "" ("ABCDE" ∷ "FGH" ∷ []) ":59:ABCDE\nFGH") ∷
    parse "ABCDEF\r\nGH" (ok Field59NoOption none "" ("ABCDEF" ∷ "GH" ∷ []) ":59:ABCDEF\nGH") ∷
    parse "ABCDEFG\r\nH" (ok Field59NoOption none "" ("ABCDEFG" ∷ "H" ∷ []) ":59:ABCDEFG\nH") ∷
    parse "ABCDEFGH\r\n" (ok Field59A none "ABCDEFGH" [] ":59A:ABCDEFGH") ∷
    parse "\rBCDEFGH" (ok Field59NoOption none "" ("\rBCDEFGH" ∷ []) ":59:\rBCDEFGH") ∷
    parse "A\rCDEFGH" (ok Field59NoOption none "" ("A\rCDEFGH" ∷ []) ":59:A\rCDEFGH") ∷
    parse "AB\rDEFGH" (ok Field59NoOption none "" ("AB\rDEFGH" ∷ []) ":59:AB\rDEFGH") ∷
    parse "ABC\rEFGH" (ok Field59NoOption none "" ("ABC\rEFGH" ∷ []) ":59:ABC\rEFGH") ∷
    parse "ABCD\rFGH" (ok Field59NoOption none "" ("ABCD\rFGH" ∷ []) ":59:ABCD\rFGH") ∷
    parse "ABCDE\rGH" (ok Field59NoOption none "" ("ABCDE\rGH" ∷ []) ":59:ABCDE\rGH") ∷
    parse "ABCDEF\rH" (ok Field59NoOption none "" ("ABCDEF\rH" ∷ []) ":59:ABCDEF\rH") ∷
    parse "ABCDEFG\r" (ok Field59NoOption none "" ("ABCDEFG\r" ∷ []) ":59:ABCDEFG\r") ∷
    parse "\nBCDEFGH" (ok Field59NoOption none "" ("" ∷ "BCDEFGH" ∷ []) ":59:\nBCDEFGH") ∷
    parse "A\nCDEFGH" (ok Field59NoOption none "" ("A" ∷ "CDEFGH" ∷ []) ":59:A\nCDEFGH") ∷
    parse "AB\nDEFGH" (ok Field59NoOption none "" ("AB" ∷ "DEFGH" ∷ []) ":59:AB\nDEFGH") ∷
    parse "ABC\nEFGH" (ok Field59NoOption none "" ("ABC" ∷ "EFGH" ∷ []) ":59:ABC\nEFGH") ∷
    parse "ABCD\nFGH" (ok Field59NoOption none "" ("ABCD" ∷ "FGH" ∷ []) ":59:ABCD\nFGH") ∷
    parse "ABCDE\nGH" (ok Field59NoOption none "" ("ABCDE" ∷ "GH" ∷ []) ":59:ABCDE\nGH") ∷
    parse "ABCDEF\nH" (ok Field59NoOption none "" ("ABCDEF" ∷ "H" ∷ []) ":59:ABCDEF\nH") ∷
    parse "ABCDEFG\n" (ok Field59NoOption none "" ("ABCDEFG" ∷ []) ":59:ABCDEFG") ∷
    parse "\r1/A\n2/B" (ok Field59NoOption none "" ("\r1/A" ∷ "2/B" ∷ []) ":59:\r1/A\n2/B") ∷
    parse "1\r/A\n2/B" (ok Field59NoOption none "" ("1\r/A" ∷ "2/B" ∷ []) ":59:1\r/A\n2/B") ∷
    parse "1/\rA\n2/B" (ok Field59F none "" ("1/\rA" ∷ "2/B" ∷ []) ":59F:1/\rA\n2/B") ∷
    parse "1/A\r\n2/B" (ok Field59F none "" ("1/A" ∷ "2/B" ∷ []) ":59F:1/A\n2/B") ∷
    parse "1/A\n\r2/B" (ok Field59NoOption none "" ("1/A" ∷ "\r2/B" ∷ []) ":59:1/A\n\r2/B") ∷
    parse "1/A\n2\r/B" (ok Field59NoOption none "" ("1/A" ∷ "2\r/B" ∷ []) ":59:1/A\n2\r/B") ∷
    parse "1/A\n2/\rB" (ok Field59F none "" ("1/A" ∷ "2/\rB" ∷ []) ":59F:1/A\n2/\rB") ∷
    parse "1/A\n2/B\r" (ok Field59F none "" ("1/A" ∷ "2/B\r" ∷ []) ":59F:1/A\n2/B\r") ∷
    parse "\n1/A\n2/B" (ok Field59NoOption none "" ("" ∷ "1/A" ∷ "2/B" ∷ []) ":59:\n1/A\n2/B") ∷
    parse "1\n/A\n2/B" (ok Field59NoOption none "" ("1" ∷ "/A" ∷ "2/B" ∷ []) ":59:1\n/A\n2/B") ∷
    parse "1/\nA\n2/B" (ok Field59NoOption none "" ("1/" ∷ "A" ∷ "2/B" ∷ []) ":59:1/\nA\n2/B") ∷
    parse "1/A\n\n2/B" (ok Field59NoOption none "" ("1/A" ∷ "" ∷ "2/B" ∷ []) ":59:1/A\n\n2/B") ∷
    parse "1/A\n2\n/B" (ok Field59NoOption none "" ("1/A" ∷ "2" ∷ "/B" ∷ []) ":59:1/A\n2\n/B") ∷
    parse "1/A\n2/\nB" (ok Field59NoOption none "" ("1/A" ∷ "2/" ∷ "B" ∷ []) ":59:1/A\n2/\nB") ∷
    parse "1/A\n2/B\n" (ok Field59F none "" ("1/A" ∷ "2/B" ∷ []) ":59F:1/A\n2/B") ∷
    parse "\r\n1/A\n2/B" (ok Field59NoOption none "" ("" ∷ "1/A" ∷ "2/B" ∷ []) ":59:\n1/A\n2/B") ∷
    parse "1\r\n/A\n2/B" (ok Field59NoOption none "" ("1" ∷ "/A" ∷ "2/B" ∷ []) ":59:1\n/A\n2/B") ∷
    parse "1/\r\nA\n2/B" (ok Field59NoOption none "" ("1/" ∷ "A" ∷ "2/B" ∷ []) ":59:1/\nA\n2/B") ∷
    parse "1/A\r\n\n2/B" (ok Field59NoOption none "" ("1/A" ∷ "" ∷ "2/B" ∷ []) ":59:1/A\n\n2/B") ∷
    parse "1/A\n\r\n2/B" (ok Field59NoOption none "" ("1/A" ∷ "" ∷ "2/B" ∷ []) ":59:1/A\n\n2/B") ∷
    parse "1/A\n2\r\n/B" (ok Field59NoOption none "" ("1/A" ∷ "2" ∷ "/B" ∷ []) ":59:1/A\n2\n/B") ∷
    parse "1/A\n2/\r\nB" (ok Field59NoOption none "" ("1/A" ∷ "2/" ∷ "B" ∷ []) ":59:1/A\n2/\nB") ∷
    parse "1/A\n2/B\r\n" (ok Field59F none "" ("1/A" ∷ "2/B" ∷ []) ":59F:1/A\n2/B") ∷
    parse "\r/A\n2/B" (ok Field59NoOption none "" ("\r/A" ∷ "2/B" ∷ []) ":59:\r/A\n2/B") ∷
    parse "1\rA\n2/B" (ok Field59NoOption none "" ("1\rA" ∷ "2/B" ∷ []) ":59:1\rA\n2/B") ∷
    parse "1/\r\n2/B" (ok Field59F none "" ("1/" ∷ "2/B" ∷ []) ":59F:1/\n2/B") ∷
    parse "1/A\r2/B" (ok Field59F none "" ("1/A\r2/B" ∷ []) ":59F:1/A\r2/B") ∷
    parse "1/A\n\r/B" (ok Field59NoOption none "" ("1/A" ∷ "\r/B" ∷ []) ":59:1/A\n\r/B") ∷
    parse "1/A\n2\rB" (ok Field59NoOption none "" ("1/A" ∷ "2\rB" ∷ []) ":59:1/A\n2\rB") ∷
    parse "1/A\n2/\r" (ok Field59F none "" ("1/A" ∷ "2/\r" ∷ []) ":59F:1/A\n2/\r") ∷
    parse "\n/A\n2/B" (ok Field59NoOption none "" ("" ∷ "/A" ∷ "2/B" ∷ []) ":59:\n/A\n2/B") ∷
    parse "1\nA\n2/B" (ok Field59NoOption none "" ("1" ∷ "A" ∷ "2/B" ∷ []) ":59:1\nA\n2/B") ∷
    parse "1/\n\n2/B" (ok Field59NoOption none "" ("1/" ∷ "" ∷ "2/B" ∷ []) ":59:1/\n\n2/B") ∷
    parse "1/A\n\n/B" (ok Field59NoOption none "" ("1/A" ∷ "" ∷ "/B" ∷ []) ":59:1/A\n\n/B") ∷
    parse "1/A\n2\nB" (ok Field59NoOption none "" ("1/A" ∷ "2" ∷ "B" ∷ []) ":59:1/A\n2\nB") ∷
    parse "1/A\n2/\n" (ok Field59F none "" ("1/A" ∷ "2/" ∷ []) ":59F:1/A\n2/") ∷
    parse "\rA\nB" (ok Field59NoOption none "" ("\rA" ∷ "B" ∷ []) ":59:\rA\nB") ∷
    parse "A\r\nB" (ok Field59NoOption none "" ("A" ∷ "B" ∷ []) ":59:A\nB") ∷
    parse "A\n\rB" (ok Field59NoOption none "" ("A" ∷ "\rB" ∷ []) ":59:A\n\rB") ∷
    parse "A\nB\r" (ok Field59NoOption none "" ("A" ∷ "B\r" ∷ []) ":59:A\nB\r") ∷
    parse "\nA\nB" (ok Field59NoOption none "" ("" ∷ "A" ∷ "B" ∷ []) ":59:\nA\nB") ∷
    parse "A\n\nB" (ok Field59NoOption none "" ("A" ∷ "" ∷ "B" ∷ []) ":59:A\n\nB") ∷
    parse "A\nB\n" (ok Field59NoOption none "" ("A" ∷ "B" ∷ []) ":59:A\nB") ∷
    parse "\r\nA\nB" (ok Field59NoOption none "" ("" ∷ "A" ∷ "B" ∷ []) ":59:\nA\nB") ∷
    parse "A\r\n\nB" (ok Field59NoOption none "" ("A" ∷ "" ∷ "B" ∷ []) ":59:A\n\nB") ∷
    parse "A\n\r\nB" (ok Field59NoOption none "" ("A" ∷ "" ∷ "B" ∷ []) ":59:A\n\nB") ∷
    parse "A\nB\r\n" (ok Field59NoOption none "" ("A" ∷ "B" ∷ []) ":59:A\nB") ∷
    parse "\r\nB" (ok Field59NoOption none "" ("" ∷ "B" ∷ []) ":59:\nB") ∷
    parse "A\rB" (ok Field59NoOption none "" ("A\rB" ∷ []) ":59:A\rB") ∷
    parse "A\n\r" (ok Field59NoOption none "" ("A" ∷ "\r" ∷ []) ":59:A\n\r") ∷
    parse "\n\nB" (ok Field59NoOption none "" ("" ∷ "" ∷ "B" ∷ []) ":59:\n\nB") ∷
    parse "A\n\n" (ok Field59NoOption none "" ("A" ∷ "" ∷ []) ":59:A\n") ∷
    parse "ABCDEFGH\nABCDEFGHIJKLMNOPQRSTUVWXYZ0123456789ABCDEFGHIJKLMNOPQRSTUVWXYZ0123456789ABCDEFGHIJKLMNOPQRSTUVWXYZ0123456789ABCDEFGHIJKLMNOPQRSTUVWXYZ0123456789ABCDEFGHIJKLMNOPQRSTUVWXYZ0123456789ABCDEFGHIJKLMNOPQRSTUVWXYZ0123456789ABCDEFGHIJKLMNOPQRSTUVWXYZ0123456789ABCDEFGHIJKLMNOPQRSTUVWXYZ0123456789ABCDEFGHIJKLMNOPQRSTUVWXYZ0123456789ABCDEFGHIJKLMNOPQRSTUVWXYZ0123456789ABCDEFGHIJKLMNOPQRSTUVWXYZ0123456789ABCDEFGHIJKLMNOPQRSTUVWXYZ0123456789ABCDEFGHIJKLMNOPQRSTUVWXYZ0123456789ABCDEFGHIJKLMNOPQRSTUVWXYZ0123456789ABCDEFGHIJKLMNOPQRSTUVWXYZ0123456789ABCDEFGHIJKLMNOPQRSTUVWXYZ0123456789ABCDEFGHIJKLMNOPQRSTUVWXYZ0123456789ABCDEFGHIJKLMNOPQRSTUVWXYZ0123456789ABCDEFGHIJKLMNOPQRSTUVWXYZ0123456789ABCDEFGHIJKLMNOPQRSTUVWXYZ0123456789ABCDEFGHIJKLMNOPQRSTUVWXYZ0123456789ABCDEFGHIJKLMNOPQRSTUVWXYZ0123456789ABCDEFGHIJKLMNOPQRSTUVWXYZ0123456789ABCDEFGHIJKLMNOPQRSTUVWXYZ0123456789ABCDEFGHIJKLMNOPQRSTUVWXYZ0123456789ABCDEFGHIJKLMNOPQRSTUVWXYZ0123456789ABCDEFGHIJKLMNOPQRSTUVWXYZ0123456789ABCDEFGHIJKLMNOPQRSTUVWXYZ0123456789ABCDEFGHIJKLMNOPQRSTUVWXYZ0123456789ABCDEFGHIJKLMNOPQRSTUVWXYZ0123456789ABCDEFGHIJKLMNOPQRSTUVWXYZ0123456789ABCDEFGHIJKLMNOPQRSTUVWXYZ0123456789ABCDEFGHIJKLMNOPQRSTUVWXYZ0123456789ABCDEFGHIJKLMNOPQRSTUVWXYZ0123456789ABCDEFGHIJKLMNOPQRSTUVWXYZ0123456789ABCDEFGHIJKLMNOPQRSTUVWXYZ0123456789ABCDEFGHIJKLMNOPQRSTUVWXYZ0123456789ABCDEFGHIJKLMNOPQRSTUVWXYZ0123456789ABCDEFGHIJKLMNOPQRSTUVWXYZ0123456789ABCDEFGHIJKLMNOPQRSTUVWXYZ0123456789ABCDEFGHIJKLMNOPQRSTUVWXYZ0123456789ABCDEFGHIJKLMNOPQRSTUVWXYZ0123456789ABCDEFGHIJKLMNOPQRSTUVWXYZ0123456789ABCDEFGHIJKLMNOPQRSTUVWXYZ0123456789ABCDEFGHIJKLMNOPQRSTUVWXYZ0123456789ABCDEFGHIJKLMNOPQRSTUVWXYZ0123456789ABCDEFGHIJKLMNOPQRSTUVWXYZ0123456789ABCDEFGHIJKLMNOPQRSTUVWXYZ0123456789ABCDEFGHIJKLMNOPQRSTUVWXYZ0123456789ABCDEFGHIJKLMNOPQRSTUVWXYZ0123456789ABCDEFGHIJKLMNOPQRSTUVWXYZ0123456789ABCDEFGHIJKLMNOPQRSTUVWXYZ0123456789ABCDEFGHIJKLMNOPQRSTUVWXYZ0123456789ABCDEFGHIJKLMNOPQRSTUVWXYZ0123456789ABCDEFGHIJKLMNOPQRSTUVWXYZ0123456789ABCDEFGHIJKLMNOPQRSTUVWXYZ0123456789ABCDEFGHIJKLMN\nABCDEFGH" (ok Field59A none "ABCDEFGH" [] ":59A:ABCDEFGH") ∷
    by "F" "//_\n/0z=/ABCDEFGHIJKLMNOPQRSTUVWXYZ012345678\r\n" (no 5 2) ∷
    by "F" "/\r\n1/}\"|+\r\n2/=\r\n3/\r\n4/(,1}'C\r\n" (ok Field59F (some "") "" ("1/}\"|+" ∷ "2/=" ∷ "3/" ∷ "4/(,1}'C" ∷ []) ":59F:/\n\n1/}\"|+\n2/=\n3/\n4/(,1}'C") ∷
    by "F" "\t/JOHN SEITH\n2/AVENUE 7\n3/GB/LONDON\n4/EXTRA" (no 5 1) ∷
    by "C" "/9}8\r\n1/y+x\r\n2/AMBCDEFGHIJKLMN" (ok Field59F (some "9}8") "" ("1/y+x" ∷ "2/AMBCDEFGHIJKLMN" ∷ []) ":59F:/9}8\n\n1/y+x\n2/AMBCDEFGHIJKLMN") ∷
    parse "A \n0" (ok Field59NoOption none "" ("A " ∷ "0" ∷ []) ":59:A \n0") ∷
    without "1/A\n2/" (ok Field59NoOption none "" ("1/A" ∷ "2/" ∷ []) ":59:1/A\n2/") ∷
    parse "ABCDEFGGH" (ok Field59NoOption none "" ("ABCDEFGGH" ∷ []) ":59:ABCDEFGGH") ∷
    without "/A\nABCD:FGH\r\n" (ok Field59NoOption (some "A") "" ("ABCD:FGH" ∷ []) ":59:/A\nABCD:FGH") ∷
    by "C" ":{?A'" (ok Field59NoOption none "" (":{?A'" ∷ []) ":59::{?A'") ∷
    by "F" "//+]zZ!'\r//\n/z*\r\n3/ABCDEFGHIJKLMNOPQRSTUVWXYZ0123456" (no 5 2) ∷
    by "A" "/GB82WET12345698765432\nDEUTDEFF" (ok Field59A (some "GB82WET12345698765432") "DEUTDEFF" [] ":59A:/GB82WET12345698765432\nDEUTDEFF") ∷
    parse "1/ZC\n2/_=" (ok Field59F none "" ("1/ZC" ∷ "2/_=" ∷ []) ":59F:1/ZC\n2/_=") ∷
    by "C" "Jz" (ok Field59NoOption none "" ("Jz" ∷ []) ":59:Jz") ∷
    by "C" "1/A\n2/A\n3/A\n4/AB\u{7f}CDEFGHIJKLMNOPQRSTUVWXYZ01234" (no 11 0) ∷
    by "F" "/12345678\n1/DEPT OF PROMOTION\n2/CENTURY BOULEVARD 883/US/NEW YORK" (ok Field59F (some "12345678") "" ("1/DEPT OF PROMOTION" ∷ "2/CENTURY BOULEVARD 883/US/NEW YORK" ∷ []) ":59F:/12345678\n\n1/DEPT OF PROMOTION\n2/CENTURY BOULEVARD 883/US/NEW YORK") ∷
    parse "/AB/\r deutdeff\nABCDEFGH\n//' ?#/zx;" (ok Field59A (some "AB/\r deutdeff") "ABCDEFGH" [] ":59A:/AB/\r deutdeff\nABCDEFGH") ∷
    by "A" "/\nABCDEF123AZ" (ok Field59A (some "") "ABCDEF123AZ" [] ":59A:/\nABCDEF123AZ") ∷
    by "F" "/A\n1/ABCDEFGHIJKLMNOPQRS\\U\nWXYZ01230123456" (no 3 2) ∷
    by "G" "//CH12\03456\r\n?1;}\r\n0YAz\r1A$.\"y\r\n" (no 11 0) ∷
    parse "/C |ZY\r\n1/ABCDEFGHIJKLMNOPQRSTUVWXYZ012345\r\n2/b\r\n3/',a+_:" (ok Field59F (some "C |ZY") "" ("1/ABCDEFGHIJKLMNOPQRSTUVWXYZ012345" ∷ "2/b" ∷ "3/',a+_:" ∷ []) ":59F:/C |ZY\n\n1/ABCDEFGHIJKLMNOPQRSTUVWXYZ012345\n2/b\n3/',a+_:") ∷
    without "JOHN S}MITH\n456 AVENUE\nLONDON\nGB" (ok Field59NoOption none "" ("JOHN S}MITH" ∷ "456 AVENUE" ∷ "LONDON" ∷ "GB" ∷ []) ":59:JOHN S}MITH\n456 AVENUE\nLONDON\nGB") ∷
    by "F" "/C/ABCDEFGHIJKL\tMNOPQRSTUVWXYZ012345\n1/?X!y)X\n212345\n1/?X!y)X\n2/" (no 3 1) ∷
    without "ABCDEFGHIJKL\n/\n\n" (ok Field59NoOption none "" ("ABCDEFGHIJKL" ∷ "/" ∷ "" ∷ []) ":59:ABCDEFGHIJKL\n/\n") ∷
    without "A\n9" (ok Field59NoOption none "" ("A" ∷ "9" ∷ []) ":59:A\n9") ∷
    parse "/" (no 11 0) ∷
    parse "1/ABCDEFGHIJKLMNOPQRSTUVWXYZ012345" (ok Field59F none "" ("1/ABCDEFGHIJKLMNOPQRSTUVWXYZ012345" ∷ []) ":59F:1/ABCDEFGHIJKLMNOPQRSTUVWXYZ012345") ∷
    by "C" "/A/\n1/A" (ok Field59F (some "A/") "" ("1/A" ∷ []) ":59F:/A/\n\n1/A") ∷
    without "/GB82WEST12345:98765432\nJOHN ^SMITH\n456 AVENUE" (no 3 2) ∷
    by "A" "//FW\ndeutd\u{7f}u\td\u{7f}ff" (no 9 2) ∷
    without "JOHN SMITH\n45\n SMITH\n45\n6 AVENUE\nLOYNDON\nGB" (no 7 0) ∷
    by "A" "/GB82WEST123456987655432\nDEUTD\r" (no 9 2) ∷
    by "A" "9/ABCDEFGHIJKLMNOPQRSTUVWXYZ0123456\n/A@YBZ'\n/&Ax>/0/-)1</\r\nAbCdEf12\n/%@c/=" (no 9 1) ∷
    by "A" "0/c\r5/\nABCDEFG\r" (no 9 1) ∷
    parse "/C/B@8\nDEUTDEFF500" (ok Field59A (some "C/B@8") "DEUTDEFF500" [] ":59A:/C/B@8\nDEUTDEFF500") ∷
    without "/GB82WEST12345698\u{5}765432\nJOHN SMIT\rH" (no 3 1) ∷
    parse "//RT1\n)" (ok Field59NoOption (some "/RT1") "" (")" ∷ []) ":59://RT1\n)") ∷
    by "A" "\n" (no 9 1) ∷
    parse "/BA\r/ Y\r\n" (no 11 0) ∷
    by "A" "/ABCDEFGHIJKLMNOPQRSTUVWXYZ01234567\r\n1/>A" (no 9 2) ∷
    by "A" "1/|\n2/!\n3/$)\n\n/\u{7f}@#z_\n" (no 9 1) ∷
    by "F" "/C/ABCDEFGHIJKLMNOPQRSTUV-WXYZ01234\n1/'&\n2/&_\n3/)y _Y" (ok Field59F (some "C/ABCDEFGHIJKLMNOPQRSTUV-WXYZ01234") "" ("1/'&" ∷ "2/&_" ∷ "3/)y _Y" ∷ []) ":59F:/C/ABCDEFGHIJKLMNOPQRSTUV-WXYZ01234\n\n1/'&\n2/&_\n3/)y _Y") ∷
    without "/GB82WEST1~23456^987654\u{7f}2\nJOHN SMITH\n456 AVENUE" (no 3 1) ∷
    parse "1/|=.c9\n2/1xa*,\n3/./" (ok Field59F none "" ("1/|=.c9" ∷ "2/1xa*," ∷ "3/./" ∷ []) ":59F:1/|=.c9\n2/1xa*,\n3/./") ∷
    without "\rA\nB" (ok Field59NoOption none "" ("\rA" ∷ "B" ∷ []) ":59:\rA\nB") ∷
    parse "1/ Z[b$A\n2/ABCDEFGHIJABCDEFGHIJKLMNOPQRSTUVWXYZ012345\n3/8%\n" (no 11 0) ∷
    by "A" "ABCDEF123AZ" (ok Field59A none "ABCDEF123AZ" [] ":59A:ABCDEF123AZ") ∷
    by "F" "1//\n9/\n2/}&]# " (no 6 2) ∷
    by "B" "JOHN SMITH\n456 AVENUE\nLO\rNDON\nGB" (ok Field59NoOption none "" ("JOHN SMITH" ∷ "456 AVENUE" ∷ "LO\rNDON" ∷ "GB" ∷ []) ":59:JOHN SMITH\n456 AVENUE\nLO\rNDON\nGB") ∷
    parse "=%\r\n\n/\"!A+Y(\n/ABCDEFGHIJKLMNOPQRSTUVWXYZ01234567\n/#).A)" (no 11 0) ∷
    without "/\nA\nABCDEFGHIJKLMNOPQRST^VWDEFGHIJKLMNOPQRSTUVWXYZ0123456789" (no 4 3) ∷
    without "*+*!z:\nABCDEFGHIJKLMNOPQRSTUVWXYZ012345678\n" (ok Field59NoOption none "" ("*+*!z:" ∷ "ABCDEFGHIJKLMNOPQRSTUVWXYZ012345678" ∷ []) ":59:*+*!z:\nABCDEFGHIJKLMNOPQRSTUVWXYZ012345678") ∷
    by "A" "/C/yA|9\nUBSWCHZ0\n" (ok Field59A (some "C/yA|9") "UBSWCHZ0" [] ":59A:/C/yA|9\nUBSWCHZ0") ∷
    parse "/C/y\nAB\u{7f}DEFGHIJKLMNOPQRS" (no 11 0) ∷
    without "\n ABCDEF123AZ" (ok Field59NoOption none "" ("" ∷ " ABCDEF123AZ" ∷ []) ":59:\n ABCDEF123AZ") ∷
    by "F" "ABCDEFGHIJKLMNOPQRSTUVWXYZ012345789" (no 5 1) ∷
    by "G" "/C/b'\n1&$b<\nABCDEFGHIJKLMNOPQRSTUVWXYZ012345678\n(\n*>b['" (ok Field59NoOption (some "C/b'") "" ("1&$b<" ∷ "ABCDEFGHIJKLMNOPQRSTUVWXYZ012345678" ∷ "(" ∷ "*>b['" ∷ []) ":59:/C/b'\n1&$b<\nABCDEFGHIJKLMNOPQRSTUVWXYZ012345678\n(\n*>b['") ∷
    by "F" "1/A~\n2.B" (no 3 1) ∷
    by "F" "/X,_|8/\n//c((( \r':=||" (no 2 1) ∷
    by "L" "1/@=1)0" (ok Field59F none "" ("1/@=1)0" ∷ []) ":59F:1/@=1)0") ∷
    parse "DEUTDUTDEFF500\nNOT READ" (ok Field59NoOption none "" ("DEUTDUTDEFF500" ∷ "NOT READ" ∷ []) ":59:DEUTDUTDEFF500\nNOT READ") ∷
    by "A" "/GB82WEST1234569876543432\nDEU\0DEFFF" (no 9 2) ∷
    by "Z" " DEUTDEFF500\r\n/0&<\n DEUTDEFF500\n DEUTDEFF500\nABCDEFGH\n/](=0=$/b;y" (no 11 0) ∷
    by "F" "/A*}.?|/!\n1/9 ..\rABCDEFGHIJK\n ABCDEFGH\n4/]\nABCDEFGHIJKLMNOPQRSTUVWXYZ012345678\r\n//=\r" (no 2 1) ∷
    parse "/C/\n1/ABCDEFGHIJKLMNOPQRSQRSTUVWXYZ012345\n" (no 11 0) ∷
    without "/C/ABCDEFGHIJKLMNOPQRSTUVWXYZ012345\n+\n-Y@1\n/|b/>" (ok Field59NoOption (some "C/ABCDEFGHIJKLMNOPQRSTUVWXYZ012345") "" ("+" ∷ "-Y@1" ∷ "/|b/>" ∷ []) ":59:/C/ABCDEFGHIJKLMNOPQRSTUVWXYZ012345\n+\n-Y@1\n/|b/>") ∷
    without "<0^\r\n#->Z\r~\n" (no 3 1) ∷
    by "F" "/A\n2/B" (no 6 2) ∷
    by "A" "//RT1\n1/{\n2/x$!\n3/)y<0\n4/(?-Zb" (no 9 2) ∷
    by "F" "\n/ABCDEFGHIJKLMNOPQRSTUVWXYZ01234567\nABCDEFGHIJKLMNOPQRSTUVWXYZ0123456" (no 5 1) ∷
    by "A" "\nBCDF1GH\n" (no 9 1) ∷
    by "F" "/A\n1/ABCDEFGHIJKQLMNOPQRS\rUVWXYZ01234567" (no 4 2) ∷
    parse "/&A?@!/0\rAbCdEf12" (no 11 0) ∷
    by "G" "//RT1\n^1/=1" (no 11 0) ∷
    parse "/C/@[x\n!8a\nABCDEFGHIJKLMNOPQRSTUVWXYZ0123JKLMNOPQRSTUVWXYZ012345678\n\nb\n" (no 11 0) ∷
    parse "/@%>:|cB\n/1/y" (ok Field59NoOption (some "@%>:|cB") "" ("/1/y" ∷ []) ":59:/@%>:|cB\n/1/y") ∷
    by "A" "a@\n><\n/<C/\r\n.\r\n\r DEUTDEFF500\n6/\n\n" (no 9 1) ∷
    by "F" "3/99=\n/ " (no 6 1) ∷
    by "A" "/yc\"<\ndeutdeutdetdeff\n" (no 9 2) ∷
    by "F" "ABCDEFGHIJK\r/ABCDEFGHIJKLMNOPQRSTUVWXYZ012345678\n2/ ;/_\nAbCdEf12\n ABCDEFGH\n" (no 5 1) ∷
    by "F" "1/JOH\nN SMqTH\n2/AVENUE 7\n3/GB/LO" (no 5 2) ∷
    by "C" "/B82WEST12345698765432\nDEUTD32\nDEUTDEFF" (ok Field59NoOption (some "B82WEST12345698765432") "" ("DEUTD32" ∷ "DEUTDEFF" ∷ []) ":59:/B82WEST12345698765432\nDEUTD32\nDEUTDEFF") ∷
    by "A" "ABC" (no 9 1) ∷
    by "B" "/.B/ABCDEFGHIJKLMNOPQRSTUVWXYZ012345678" (no 11 0) ∷
    without " AbCdEf12\n//+%C\n\r_Yx!\n4/Z}\n0/0Z%\n6/|z_|" (no 7 0) ∷
    without "JOHN SMITH\n456 AVENUE\nLONDON\n\nGB" (no 7 0) ∷
    by "Z" "//y<z!\n/y(z " (ok Field59NoOption (some "/y<z!") "" ("/y(z " ∷ []) ":59://y<z!\n/y(z ") ∷
    by "A" "ABCD^FGH" (no 10 1) ∷
    by "A" "ABCDEF123AZ\n" (ok Field59A none "ABCDEF123AZ" [] ":59A:ABCDEF123AZ") ∷
    parse "\n" (ok Field59NoOption none "" ("" ∷ []) ":59:") ∷
    parse "//FW\r\n1/" (ok Field59F (some "/FW") "" ("1/" ∷ []) ":59F://FW\n\n1/") ∷
    by "F" "\r\n[" (no 5 1) ∷
    by "A" "0\n1/b_:9a\n\n" (no 9 1) ∷
    parse "/Y/*\r\n/A/bb{ }{" (ok Field59NoOption (some "Y/*") "" ("/A/bb{ }{" ∷ []) ":59:/Y/*\n/A/bb{ }{") ∷
    by "A" "/A\n" (no 8 0) ∷
    by "F" "1/A\nA\n//B" (no 5 2) ∷
    parse "/.,[_A>\n\n" (ok Field59NoOption (some ".,[_A>") "" ("" ∷ []) ":59:/.,[_A>\n") ∷
    parse "1/\u{13}\n2/-B" (no 11 0) ∷
    parse "/\"a\n1/ABCDEFGHIJKLMNOPQRSTUVWXYZ0123456\r2/.!$y\n\r\n/=*Cz/\n//B9\n/ " (no 11 0) ∷
    without "9xB[A|&" (ok Field59NoOption none "" ("9xB[A|&" ∷ []) ":59:9xB[A|&") ∷
    without "0|Yb,\r\nABCDEFGHIJKLMNOPQRSTUVWXYZ0123456:8\r\n)+(a\"\r\n\r\n" (ok Field59NoOption none "" ("0|Yb," ∷ "ABCDEFGHIJKLMNOPQRSTUVWXYZ0123456:8" ∷ ")+(a\"" ∷ "" ∷ []) ":59:0|Yb,\nABCDEFGHIJKLMNOPQRSTUVWXYZ0123456:8\n)+(a\"\n") ∷
    parse "ABCDEAGH" (ok Field59A none "ABCDEAGH" [] ":59A:ABCDEAGH") ∷
    without "(-\n\u{7f}}8c9\n\n#!@[[" (no 3 2) ∷
    by "F" "//CH123456\r\nAbCdEf12" (no 5 2) ∷
    by "K" "1/zZ9#\r\n2/\r\n3/%bX" (ok Field59F none "" ("1/zZ9#" ∷ "2/" ∷ "3/%bX" ∷ []) ":59F:1/zZ9#\n2/\n3/%bX") ∷
    by "A" "0/%/@$\r\n/'\n\n" (no 9 1) ∷
    by "A" "AbCdEf12\n\n/ABCDEFGHIJKLMNOPQRSTUVWXYZ012345678\nABCDEFGHIJKLMNOPQRSTUVWXYZ0123456\n" (ok Field59A none "AbCdEf12" [] ":59A:AbCdEf12") ∷
    without "ABCDEFGHIJKLMNOPQRSTUVWXYZ0123456789\n deutdeff\n/\n4/|C\n0b\n//,a" (no 4 1) ∷
    without "0/+b _\n// \n@z@" (ok Field59NoOption none "" ("0/+b _" ∷ "// " ∷ "@z@" ∷ []) ":59:0/+b _\n// \n@z@") ∷
    parse ":ABCDEF\nGHIJKLMN" (ok Field59NoOption none "" (":ABCDEF" ∷ "GHIJKLMN" ∷ []) ":59::ABCDEF\nGHIJKLMN") ∷
    by "G" "/A\n1/ABCDEFGHIJKLMNOPQRSTUVWXYZ0123456" (ok Field59F (some "A") "" ("1/ABCDEFGHIJKLMNOPQRSTUVWXYZ0123456" ∷ []) ":59F:/A\n\n1/ABCDEFGHIJKLMNOPQRSTUVWXYZ0123456") ∷
    by "Z" "AA\nABCDEF\u{7f}H" (no 11 0) ∷
    parse "//_=('8B\n\n" (ok Field59NoOption (some "/_=('8B") "" ("" ∷ []) ":59://_=('8B\n") ∷
    by "K" "/@\n1/\rABCDEFGH" (ok Field59F (some "@") "" ("1/\rABCDEFGH" ∷ []) ":59F:/@\n\n1/\rABCDEFGH") ∷
    without "ABCDEFGHIJKLjMNOPQRSTUVWXYZ01234567\n]-\n -<&B\n" (ok Field59NoOption none "" ("ABCDEFGHIJKLjMNOPQRSTUVWXYZ01234567" ∷ "]-" ∷ " -<&B" ∷ []) ":59:ABCDEFGHIJKLjMNOPQRSTUVWXYZ01234567\n]-\n -<&B") ∷
    by "Z" "/C__;'\n1/+*9\n2/}:yC<b\n3/Y@*=-C\n4\r0 \n" (ok Field59NoOption (some "C__;'") "" ("1/+*9" ∷ "2/}:yC<b" ∷ "3/Y@*=-C" ∷ "4\r0 " ∷ []) ":59:/C__;'\n1/+*9\n2/}:yC<b\n3/Y@*=-C\n4\r0 ") ∷
    without "/A\nA\nA\nA\nABCDEFGHIJK\rMNOPQRSTUVWXYZ012345678" (ok Field59NoOption (some "A") "" ("A" ∷ "A" ∷ "A" ∷ "ABCDEFGHIJK\rMNOPQRSTUVWXYZ012345678" ∷ []) ":59:/A\nA\nA\nA\nABCDEFGHIJK\rMNOPQRSTUVWXYZ012345678") ∷
    by "A" "/}\r\n1/\u{7f}C9\t\n\t2//:\r\n3/|&|" (no 9 2) ∷
    by "F" "1/A9\n22/B" (no 5 2) ∷
    parse "//RT1\r\ndeutdeEf" (ok Field59A (some "/RT1") "deutdeEf" [] ":59A://RT1\ndeutdeEf") ∷
    parse "/12345678\n1/DEPT OF PROMOTION\n2/CEN\0URY BOULEVARD 88\n3/US/NEW YORK" (no 11 0) ∷
    by "Y" "A\n" (ok Field59NoOption none "" ("A" ∷ []) ":59:A") ∷
    parse "/C/ABCDEFGHIJKLMNOPQRSTUVWXYZ012345\r\n<\r\nC\r\n" (ok Field59NoOption (some "C/ABCDEFGHIJKLMNOPQRSTUVWXYZ012345") "" ("<" ∷ "C" ∷ []) ":59:/C/ABCDEFGHIJKLMNOPQRSTUVWXYZ012345\n<\nC") ∷
    by "C" "\n DEUTDEFF500\n/aZA@\r" (ok Field59NoOption none "" ("" ∷ " DEUTDEFF500" ∷ "/aZA@\r" ∷ []) ":59:\n DEUTDEFF500\n/aZA@\r") ∷
    parse "/GB82WEST12345698765432\nDEUATDEFF" (ok Field59NoOption (some "GB82WEST12345698765432") "" ("DEUATDEFF" ∷ []) ":59:/GB82WEST12345698765432\nDEUATDEFF") ∷
    by "F" "0/(Yb" (no 6 1) ∷
    by "A" "1\n/A/A\n2/B" (no 9 1) ∷
    without "1/X+xb={\n2/ABCDEFGHIJKLMN1/X+xb={\n2/ABCDEFGHIJKLMNOPQRSTUVWXYZ012345\n3/.[=" (ok Field59NoOption none "" ("1/X+xb={" ∷ "2/ABCDEFGHIJKLMN1/X+xb={" ∷ "2/ABCDEFGHIJKLMNOPQRSTUVWXYZ012345" ∷ "3/.[=" ∷ []) ":59:1/X+xb={\n2/ABCDEFGHIJKLMN1/X+xb={\n2/ABCDEFGHIJKLMNOPQRSTUVWXYZ012345\n3/.[=") ∷
    by "L" "DEUTDEFF500\n\nO" (ok Field59A none "DEUTDEFF500" [] ":59A:DEUTDEFF500") ∷
    without "/ABCDEFGHIJKLMNOPQRSTUV\u{15}JKLMNOPQRSTUV\u{15}XYZ012345678\nABCDEFGH" (no 4 1) ∷
    []

-- Made of crates/replay/stdin by tests/rust/listed: the cases of Field59Debtor.
use Rattle.std.specs.Prelude.{List, [], ◌∷◌}
use Rattle.std.proofs.Math.Option.{none, some}
use Rattle.party.specs.declared.PartyOption.TheVariants.{Field59NoOption, Field59A}
use Rattle.swift_mt_message.specs.Cases.{Case, parse, without, by, ok, no}

abbrev pub cases : List Case
cases =
    by "A" "" (no 1 0) ∷
    by "A" "/~\nABCDEFGH" (no 3 1) ∷
    by "A" "/A" (no 8 0) ∷
    by "A" "ABCDEFG" (no 9 1) ∷
    by "A" "/1\nABCDEFG" (no 9 2) ∷
    by "A" "1BCDEFGH" (no 10 1) ∷
    by "A" "/1\n1BCDEFGH" (no 10 2) ∷
    without "" (no 1 0) ∷
    without "~\n~" (no 3 1) ∷
    without "A\n~\n~" (no 3 2) ∷
    without "A\nA\n~\n~" (no 3 3) ∷
    without "A\nA\nA\n~\n~" (no 3 4) ∷
    without "A\nA\nA\nA\n~\n~" (no 3 5) ∷
    without "A\nA\nA\nA\nA\n~\n~" (no 3 6) ∷
    without "A\nA\nA\nA\nA\nA\n~\n~" (no 3 7) ∷
    without "A\nA\nA\nA\nA\nA\nA\n~\n~" (no 3 8) ∷
    without "A\nA\nA\nA\nA\nA\nA\nA\n~\n~" (no 3 9) ∷
    without "A\nA\nA\nA\nA\nA\nA\nA\nA\n~\n~" (no 3 10) ∷
    without "A\nA\nA\nA\nA\nA\nA\nA\nA\nA\n~\n~" (no 3 11) ∷
    without "A\nA\nA\nA\nA\nA\nA\nA\nA\nA\nA\nA\nA\nA\nA\nA\nA\nA\nA\nA\nA\nA\nA\nA\nA\nA\nA\nA\nA\nA\nA\nA\nA\nA\nA\nA\nA\nA\nA\n~\n~" (no 3 40) ∷
    without "ABCDEFGHIJKLMNOPQRSTUVWXYZ0123456789\n~" (no 4 1) ∷
    without "A\nABCDEFGHIJKLMNOPQRSTUVWXYZ0123456789\n~" (no 4 2) ∷
    without "A\nA\nABCDEFGHIJKLMNOPQRSTUVWXYZ0123456789\n~" (no 4 3) ∷
    without "A\nA\nA\nABCDEFGHIJKLMNOPQRSTUVWXYZ0123456789\n~" (no 4 4) ∷
    without "A\nA\nA\nA\nABCDEFGHIJKLMNOPQRSTUVWXYZ0123456789\n~" (no 4 5) ∷
    without "A\nA\nA\nA\nA\nABCDEFGHIJKLMNOPQRSTUVWXYZ0123456789\n~" (no 4 6) ∷
    without "A\nA\nA\nA\nA\nA\nABCDEFGHIJKLMNOPQRSTUVWXYZ0123456789\n~" (no 4 7) ∷
    without "A\nA\nA\nA\nA\nA\nA\nABCDEFGHIJKLMNOPQRSTUVWXYZ0123456789\n~" (no 4 8) ∷
    without "A\nA\nA\nA\nA\nA\nA\nA\nABCDEFGHIJKLMNOPQRSTUVWXYZ0123456789\n~" (no 4 9) ∷
    without "A\nA\nA\nA\nA\nA\nA\nA\nA\nABCDEFGHIJKLMNOPQRSTUVWXYZ0123456789\n~" (no 4 10) ∷
    without "A\nA\nA\nA\nA\nA\nA\nA\nA\nA\nABCDEFGHIJKLMNOPQRSTUVWXYZ0123456789\n~" (no 4 11) ∷
    without "A\nA\nA\nA\nA\nA\nA\nA\nA\nA\nA\nA\nA\nA\nA\nA\nA\nA\nA\nA\nA\nA\nA\nA\nA\nA\nA\nA\nA\nA\nA\nA\nA\nA\nA\nA\nA\nA\nA\nABCDEFGHIJKLMNOPQRSTUVWXYZ0123456789\n~" (no 4 40) ∷
    without "/A" (no 7 0) ∷
    parse "ABCDEFGH" (ok Field59A none "ABCDEFGH" [] ":59A:ABCDEFGH") ∷
    parse "" (no 11 0) ∷
    parse "~" (no 11 0) ∷
    parse "/~\n~" (no 11 0) ∷
    parse "/GB82WEST12345698765432\nDEUTDEFF" (ok Field59A (some "GB82WEST12345698765432") "DEUTDEFF" [] ":59A:/GB82WEST12345698765432\nDEUTDEFF") ∷
    parse "DEUTDEFF500\nNOT READ" (ok Field59A none "DEUTDEFF500" [] ":59A:DEUTDEFF500") ∷
    parse "A\nB" (ok Field59NoOption none "" ("A" ∷ "B" ∷ []) ":59:A\nB") ∷
    parse "/GB82WEST12345698765432\nJOHN SMITH\n456 AVENUE" (ok Field59NoOption (some "GB82WEST12345698765432") "" ("JOHN SMITH" ∷ "456 AVENUE" ∷ []) ":59:/GB82WEST12345698765432\nJOHN SMITH\n456 AVENUE") ∷
    parse "JOHN SMITH\n456 AVENUE\nLONDON\nGB" (ok Field59NoOption none "" ("JOHN SMITH" ∷ "456 AVENUE" ∷ "LONDON" ∷ "GB" ∷ []) ":59:JOHN SMITH\n456 AVENUE\nLONDON\nGB") ∷
    without "ABCDEFGH" (ok Field59NoOption none "" ("ABCDEFGH" ∷ []) ":59:ABCDEFGH") ∷
    without "~" (no 3 1) ∷
    without "/~\n~" (no 3 1) ∷
    without "/GB82WEST12345698765432\nDEUTDEFF" (ok Field59NoOption (some "GB82WEST12345698765432") "" ("DEUTDEFF" ∷ []) ":59:/GB82WEST12345698765432\nDEUTDEFF") ∷
    without "DEUTDEFF500\nNOT READ" (ok Field59NoOption none "" ("DEUTDEFF500" ∷ "NOT READ" ∷ []) ":59:DEUTDEFF500\nNOT READ") ∷
    without "A\nB" (ok Field59NoOption none "" ("A" ∷ "B" ∷ []) ":59:A\nB") ∷
    without "/GB82WEST12345698765432\nJOHN SMITH\n456 AVENUE" (ok Field59NoOption (some "GB82WEST12345698765432") "" ("JOHN SMITH" ∷ "456 AVENUE" ∷ []) ":59:/GB82WEST12345698765432\nJOHN SMITH\n456 AVENUE") ∷
    without "JOHN SMITH\n456 AVENUE\nLONDON\nGB" (ok Field59NoOption none "" ("JOHN SMITH" ∷ "456 AVENUE" ∷ "LONDON" ∷ "GB" ∷ []) ":59:JOHN SMITH\n456 AVENUE\nLONDON\nGB") ∷
    by "A" "ABCDEFGH" (ok Field59A none "ABCDEFGH" [] ":59A:ABCDEFGH") ∷
    by "A" "~" (no 9 1) ∷
    by "A" "/~\n~" (no 3 1) ∷
    by "A" "/GB82WEST12345698765432\nDEUTDEFF" (ok Field59A (some "GB82WEST12345698765432") "DEUTDEFF" [] ":59A:/GB82WEST12345698765432\nDEUTDEFF") ∷
    by "A" "DEUTDEFF500\nNOT READ" (ok Field59A none "DEUTDEFF500" [] ":59A:DEUTDEFF500") ∷
    by "A" "A\nB" (no 9 1) ∷
    by "A" "/GB82WEST12345698765432\nJOHN SMITH\n456 AVENUE" (no 9 2) ∷
    by "A" "JOHN SMITH\n456 AVENUE\nLONDON\nGB" (no 9 1) ∷
    by "B" "ABCDEFGH" (ok Field59A none "ABCDEFGH" [] ":59A:ABCDEFGH") ∷
    by "C" "ABCDEFGH" (ok Field59A none "ABCDEFGH" [] ":59A:ABCDEFGH") ∷
    by "F" "ABCDEFGH" (ok Field59A none "ABCDEFGH" [] ":59A:ABCDEFGH") ∷
    by "G" "ABCDEFGH" (ok Field59A none "ABCDEFGH" [] ":59A:ABCDEFGH") ∷
    by "H" "ABCDEFGH" (ok Field59A none "ABCDEFGH" [] ":59A:ABCDEFGH") ∷
    by "K" "ABCDEFGH" (ok Field59A none "ABCDEFGH" [] ":59A:ABCDEFGH") ∷
    by "L" "ABCDEFGH" (ok Field59A none "ABCDEFGH" [] ":59A:ABCDEFGH") ∷
    by "Y" "ABCDEFGH" (ok Field59A none "ABCDEFGH" [] ":59A:ABCDEFGH") ∷
    by "Z" "ABCDEFGH" (ok Field59A none "ABCDEFGH" [] ":59A:ABCDEFGH") ∷
    by "B" "" (no 11 0) ∷
    by "B" "~" (no 11 0) ∷
    by "B" "/~\n~" (no 11 0) ∷
    by "B" "/GB82WEST12345698765432\nDEUTDEFF" (ok Field59A (some "GB82WEST12345698765432") "DEUTDEFF" [] ":59A:/GB82WEST12345698765432\nDEUTDEFF") ∷
    by "B" "DEUTDEFF500\nNOT READ" (ok Field59A none "DEUTDEFF500" [] ":59A:DEUTDEFF500") ∷
    by "B" "A\nB" (ok Field59NoOption none "" ("A" ∷ "B" ∷ []) ":59:A\nB") ∷
    by "B" "/GB82WEST12345698765432\nJOHN SMITH\n456 AVENUE" (ok Field59NoOption (some "GB82WEST12345698765432") "" ("JOHN SMITH" ∷ "456 AVENUE" ∷ []) ":59:/GB82WEST12345698765432\nJOHN SMITH\n456 AVENUE") ∷
    by "B" "JOHN SMITH\n456 AVENUE\nLONDON\nGB" (ok Field59NoOption none "" ("JOHN SMITH" ∷ "456 AVENUE" ∷ "LONDON" ∷ "GB" ∷ []) ":59:JOHN SMITH\n456 AVENUE\nLONDON\nGB") ∷
    by "a" "ABCDEFGH" (ok Field59A none "ABCDEFGH" [] ":59A:ABCDEFGH") ∷
    by "c" "ABCDEFGH" (ok Field59A none "ABCDEFGH" [] ":59A:ABCDEFGH") ∷
    by "f" "ABCDEFGH" (ok Field59A none "ABCDEFGH" [] ":59A:ABCDEFGH") ∷
    by "z" "ABCDEFGH" (ok Field59A none "ABCDEFGH" [] ":59A:ABCDEFGH") ∷
    by "0" "ABCDEFGH" (ok Field59A none "ABCDEFGH" [] ":59A:ABCDEFGH") ∷
    by "5" "ABCDEFGH" (ok Field59A none "ABCDEFGH" [] ":59A:ABCDEFGH") ∷
    by "9" "ABCDEFGH" (ok Field59A none "ABCDEFGH" [] ":59A:ABCDEFGH") ∷
    by "\u{1}" "ABCDEFGH" (ok Field59A none "ABCDEFGH" [] ":59A:ABCDEFGH") ∷
    by "\t" "ABCDEFGH" (ok Field59A none "ABCDEFGH" [] ":59A:ABCDEFGH") ∷
    by "\n" "ABCDEFGH" (ok Field59A none "ABCDEFGH" [] ":59A:ABCDEFGH") ∷
    by " " "ABCDEFGH" (ok Field59A none "ABCDEFGH" [] ":59A:ABCDEFGH") ∷
    by "/" "ABCDEFGH" (ok Field59A none "ABCDEFGH" [] ":59A:ABCDEFGH") ∷
    by ":" "ABCDEFGH" (ok Field59A none "ABCDEFGH" [] ":59A:ABCDEFGH") ∷
    by "@" "ABCDEFGH" (ok Field59A none "ABCDEFGH" [] ":59A:ABCDEFGH") ∷
    by "[" "ABCDEFGH" (ok Field59A none "ABCDEFGH" [] ":59A:ABCDEFGH") ∷
    by "`" "ABCDEFGH" (ok Field59A none "ABCDEFGH" [] ":59A:ABCDEFGH") ∷
    by "{" "ABCDEFGH" (ok Field59A none "ABCDEFGH" [] ":59A:ABCDEFGH") ∷
    by "~" "ABCDEFGH" (ok Field59A none "ABCDEFGH" [] ":59A:ABCDEFGH") ∷
    by "\u{7f}" "ABCDEFGH" (ok Field59A none "ABCDEFGH" [] ":59A:ABCDEFGH") ∷
    parse "/1" (no 11 0) ∷
    parse "/1\nA" (ok Field59NoOption (some "1") "" ("A" ∷ []) ":59:/1\nA") ∷
    parse "/1\nABCDEFG" (ok Field59NoOption (some "1") "" ("ABCDEFG" ∷ []) ":59:/1\nABCDEFG") ∷
    parse "/1\nABCDEFGH" (ok Field59A (some "1") "ABCDEFGH" [] ":59A:/1\nABCDEFGH") ∷
    parse "/1\nABCDEFGHI" (ok Field59NoOption (some "1") "" ("ABCDEFGHI" ∷ []) ":59:/1\nABCDEFGHI") ∷
    parse "/1\nABCDEFGHIJ" (ok Field59NoOption (some "1") "" ("ABCDEFGHIJ" ∷ []) ":59:/1\nABCDEFGHIJ") ∷
    parse "/1\nABCDEFGHIJK" (ok Field59A (some "1") "ABCDEFGHIJK" [] ":59A:/1\nABCDEFGHIJK") ∷
    parse "/1\nABCDEFGHIJKL" (ok Field59NoOption (some "1") "" ("ABCDEFGHIJKL" ∷ []) ":59:/1\nABCDEFGHIJKL") ∷
    parse "\rABCDEFGH" (ok Field59NoOption none "" ("\rABCDEFGH" ∷ []) ":59:\rABCDEFGH") ∷
    parse "A\rBCDEFGH" (ok Field59NoOption none "" ("A\rBCDEFGH" ∷ []) ":59:A\rBCDEFGH") ∷
    parse "AB\rCDEFGH" (ok Field59NoOption none "" ("AB\rCDEFGH" ∷ []) ":59:AB\rCDEFGH") ∷
    parse "ABC\rDEFGH" (ok Field59NoOption none "" ("ABC\rDEFGH" ∷ []) ":59:ABC\rDEFGH") ∷
    parse "ABCD\rEFGH" (ok Field59NoOption none "" ("ABCD\rEFGH" ∷ []) ":59:ABCD\rEFGH") ∷
    parse "ABCDE\rFGH" (ok Field59NoOption none "" ("ABCDE\rFGH" ∷ []) ":59:ABCDE\rFGH") ∷
    parse "ABCDEF\rGH" (ok Field59NoOption none "" ("ABCDEF\rGH" ∷ []) ":59:ABCDEF\rGH") ∷
    parse "ABCDEFG\rH" (ok Field59NoOption none "" ("ABCDEFG\rH" ∷ []) ":59:ABCDEFG\rH") ∷
    parse "ABCDEFGH\r" (ok Field59NoOption none "" ("ABCDEFGH\r" ∷ []) ":59:ABCDEFGH\r") ∷
    parse "\nABCDEFGH" (ok Field59NoOption none "" ("" ∷ "ABCDEFGH" ∷ []) ":59:\nABCDEFGH") ∷
    parse "A\nBCDEFGH" (ok Field59NoOption none "" ("A" ∷ "BCDEFGH" ∷ []) ":59:A\nBCDEFGH") ∷
    parse "AB\nCDEFGH" (ok Field59NoOption none "" ("AB" ∷ "CDEFGH" ∷ []) ":59:AB\nCDEFGH") ∷
    parse "ABC\nDEFGH" (ok Field59NoOption none "" ("ABC" ∷ "DEFGH" ∷ []) ":59:ABC\nDEFGH") ∷
    parse "ABCD\nEFGH" (ok Field59NoOption none "" ("ABCD" ∷ "EFGH" ∷ []) ":59:ABCD\nEFGH") ∷
    parse "ABCDE\nFGH" (ok Field59NoOption none "" ("ABCDE" ∷ "FGH" ∷ []) ":59:ABCDE\nFGH") ∷
    parse "ABCDEF\nGH" (ok Field59NoOption none "" ("ABCDEF" ∷ "GH" ∷ []) ":59:ABCDEF\nGH") ∷
    parse "ABCDEFG\nH" (ok Field59NoOption none "" ("ABCDEFG" ∷ "H" ∷ []) ":59:ABCDEFG\nH") ∷
    parse "ABCDEFGH\n" (ok Field59A none "ABCDEFGH" [] ":59A:ABCDEFGH") ∷
    parse "\r\nABCDEFGH" (ok Field59NoOption none "" ("" ∷ "ABCDEFGH" ∷ []) ":59:\nABCDEFGH") ∷
    parse "A\r\nBCDEFGH" (ok Field59NoOption none "" ("A" ∷ "BCDEFGH" ∷ []) ":59:A\nBCDEFGH") ∷
    parse "AB\r\nCDEFGH" (ok Field59NoOption none "" ("AB" ∷ "CDEFGH" ∷ []) ":59:AB\nCDEFGH") ∷
    parse "ABC\r\nDEFGH" (ok Field59NoOption none "" ("ABC" ∷ "DEFGH" ∷ []) ":59:ABC\nDEFGH") ∷
    parse "ABCD\r\nEFGH" (ok Field59NoOption none "" ("ABCD" ∷ "EFGH" ∷ []) ":59:ABCD\nEFGH") ∷
    parse "ABCDE\r\nFGH" (ok Field59NoOption none "" ("ABCDE" ∷ "FGH" ∷ []) ":59:ABCDE\nFGH") ∷
    parse "ABCDEF\r\nGH" (ok Field59NoOption none "" ("ABCDEF" ∷ "GH" ∷ []) ":59:ABCDEF\nGH") ∷
    parse "ABCDEFG\r\nH" (ok Field59NoOption none "" ("ABCDEFG" ∷ "H" ∷ []) ":59:ABCDEFG\nH") ∷
    parse "ABCDEFGH\r\n" (ok Field59A none "ABCDEFGH" [] ":59A:ABCDEFGH") ∷
    parse "\rBCDEFGH" (ok Field59NoOption none "" ("\rBCDEFGH" ∷ []) ":59:\rBCDEFGH") ∷
    parse "A\rCDEFGH" (ok Field59NoOption none "" ("A\rCDEFGH" ∷ []) ":59:A\rCDEFGH") ∷
    parse "AB\rDEFGH" (ok Field59NoOption none "" ("AB\rDEFGH" ∷ []) ":59:AB\rDEFGH") ∷
    parse "ABC\rEFGH" (ok Field59NoOption none "" ("ABC\rEFGH" ∷ []) ":59:ABC\rEFGH") ∷
    parse "ABCD\rFGH" (ok Field59NoOption none "" ("ABCD\rFGH" ∷ []) ":59:ABCD\rFGH") ∷
    parse "ABCDE\rGH" (ok Field59NoOption none "" ("ABCDE\rGH" ∷ []) ":59:ABCDE\rGH") ∷
    parse "ABCDEF\rH" (ok Field59NoOption none "" ("ABCDEF\rH" ∷ []) ":59:ABCDEF\rH") ∷
    parse "ABCDEFG\r" (ok Field59NoOption none "" ("ABCDEFG\r" ∷ []) ":59:ABCDEFG\r") ∷
    parse "\nBCDEFGH" (ok Field59NoOption none "" ("" ∷ "BCDEFGH" ∷ []) ":59:\nBCDEFGH") ∷
    parse "A\nCDEFGH" (ok Field59NoOption none "" ("A" ∷ "CDEFGH" ∷ []) ":59:A\nCDEFGH") ∷
    parse "AB\nDEFGH" (ok Field59NoOption none "" ("AB" ∷ "DEFGH" ∷ []) ":59:AB\nDEFGH") ∷
    parse "ABC\nEFGH" (ok Field59NoOption none "" ("ABC" ∷ "EFGH" ∷ []) ":59:ABC\nEFGH") ∷
    parse "ABCD\nFGH" (ok Field59NoOption none "" ("ABCD" ∷ "FGH" ∷ []) ":59:ABCD\nFGH") ∷
    parse "ABCDE\nGH" (ok Field59NoOption none "" ("ABCDE" ∷ "GH" ∷ []) ":59:ABCDE\nGH") ∷
    parse "ABCDEF\nH" (ok Field59NoOption none "" ("ABCDEF" ∷ "H" ∷ []) ":59:ABCDEF\nH") ∷
    parse "ABCDEFG\n" (ok Field59NoOption none "" ("ABCDEFG" ∷ []) ":59:ABCDEFG") ∷
    parse "\rA\nB" (ok Field59NoOption none "" ("\rA" ∷ "B" ∷ []) ":59:\rA\nB") ∷
    parse "A\r\nB" (ok Field59NoOption none "" ("A" ∷ "B" ∷ []) ":59:A\nB") ∷
    parse "A\n\rB" (ok Field59NoOption none "" ("A" ∷ "\rB" ∷ []) ":59:A\n\rB") ∷
    parse "A\nB\r" (ok Field59NoOption none "" ("A" ∷ "B\r" ∷ []) ":59:A\nB\r") ∷
    parse "\nA\nB" (ok Field59NoOption none "" ("" ∷ "A" ∷ "B" ∷ []) ":59:\nA\nB") ∷
    parse "A\n\nB" (ok Field59NoOption none "" ("A" ∷ "" ∷ "B" ∷ []) ":59:A\n\nB") ∷
    parse "A\nB\n" (ok Field59NoOption none "" ("A" ∷ "B" ∷ []) ":59:A\nB") ∷
    parse "\r\nA\nB" (ok Field59NoOption none "" ("" ∷ "A" ∷ "B" ∷ []) ":59:\nA\nB") ∷
    parse "A\r\n\nB" (ok Field59NoOption none "" ("A" ∷ "" ∷ "B" ∷ []) ":59:A\n\nB") ∷
    parse "A\n\r\nB" (ok Field59NoOption none "" ("A" ∷ "" ∷ "B" ∷ []) ":59:A\n\nB") ∷
    parse "A\nB\r\n" (ok Field59NoOption none "" ("A" ∷ "B" ∷ []) ":59:A\nB") ∷
    parse "\r\nB" (ok Field59NoOption none "" ("" ∷ "B" ∷ []) ":59:\nB") ∷
    parse "A\rB" (ok Field59NoOption none "" ("A\rB" ∷ []) ":59:A\rB") ∷
    parse "A\n\r" (ok Field59NoOption none "" ("A" ∷ "\r" ∷ []) ":59:A\n\r") ∷
    parse "\n\nB" (ok Field59NoOption none "" ("" ∷ "" ∷ "B" ∷ []) ":59:\n\nB") ∷
    parse "A\n\n" (ok Field59NoOption none "" ("A" ∷ "" ∷ []) ":59:A\n") ∷
    parse "ABCDEFGH\nABCDEFGHIJKLMNOPQRSTUVWXYZ0123456789ABCDEFGHIJKLMNOPQRSTUVWXYZ0123456789ABCDEFGHIJKLMNOPQRSTUVWXYZ0123456789ABCDEFGHIJKLMNOPQRSTUVWXYZ0123456789ABCDEFGHIJKLMNOPQRSTUVWXYZ0123456789ABCDEFGHIJKLMNOPQRSTUVWXYZ0123456789ABCDEFGHIJKLMNOPQRSTUVWXYZ0123456789ABCDEFGHIJKLMNOPQRSTUVWXYZ0123456789ABCDEFGHIJKLMNOPQRSTUVWXYZ0123456789ABCDEFGHIJKLMNOPQRSTUVWXYZ0123456789ABCDEFGHIJKLMNOPQRSTUVWXYZ0123456789ABCDEFGHIJKLMNOPQRSTUVWXYZ0123456789ABCDEFGHIJKLMNOPQRSTUVWXYZ0123456789ABCDEFGHIJKLMNOPQRSTUVWXYZ0123456789ABCDEFGHIJKLMNOPQRSTUVWXYZ0123456789ABCDEFGHIJKLMNOPQRSTUVWXYZ0123456789ABCDEFGHIJKLMNOPQRSTUVWXYZ0123456789ABCDEFGHIJKLMNOPQRSTUVWXYZ0123456789ABCDEFGHIJKLMNOPQRSTUVWXYZ0123456789ABCDEFGHIJKLMNOPQRSTUVWXYZ0123456789ABCDEFGHIJKLMNOPQRSTUVWXYZ0123456789ABCDEFGHIJKLMNOPQRSTUVWXYZ0123456789ABCDEFGHIJKLMNOPQRSTUVWXYZ0123456789ABCDEFGHIJKLMNOPQRSTUVWXYZ0123456789ABCDEFGHIJKLMNOPQRSTUVWXYZ0123456789ABCDEFGHIJKLMNOPQRSTUVWXYZ0123456789ABCDEFGHIJKLMNOPQRSTUVWXYZ0123456789ABCDEFGHIJKLMNOPQRSTUVWXYZ0123456789ABCDEFGHIJKLMNOPQRSTUVWXYZ0123456789ABCDEFGHIJKLMNOPQRSTUVWXYZ0123456789ABCDEFGHIJKLMNOPQRSTUVWXYZ0123456789ABCDEFGHIJKLMNOPQRSTUVWXYZ0123456789ABCDEFGHIJKLMNOPQRSTUVWXYZ0123456789ABCDEFGHIJKLMNOPQRSTUVWXYZ0123456789ABCDEFGHIJKLMNOPQRSTUVWXYZ0123456789ABCDEFGHIJKLMNOPQRSTUVWXYZ0123456789ABCDEFGHIJKLMNOPQRSTUVWXYZ0123456789ABCDEFGHIJKLMNOPQRSTUVWXYZ0123456789ABCDEFGHIJKLMNOPQRSTUVWXYZ0123456789ABCDEFGHIJKLMNOPQRSTUVWXYZ0123456789ABCDEFGHIJKLMNOPQRSTUVWXYZ0123456789ABCDEFGHIJKLMNOPQRSTUVWXYZ0123456789ABCDEFGHIJKLMNOPQRSTUVWXYZ0123456789ABCDEFGHIJKLMNOPQRSTUVWXYZ0123456789ABCDEFGHIJKLMNOPQRSTUVWXYZ0123456789ABCDEFGHIJKLMNOPQRSTUVWXYZ0123456789ABCDEFGHIJKLMNOPQRSTUVWXYZ0123456789ABCDEFGHIJKLMNOPQRSTUVWXYZ0123456789ABCDEFGHIJKLMNOPQRSTUVWXYZ0123456789ABCDEFGHIJKLMNOPQRSTUVWXYZ0123456789ABCDEFGHIJKLMNOPQRSTUVWXYZ0123456789ABCDEFGHIJKLMNOPQRSTUVWXYZ0123456789ABCDEFGHIJKLMNOPQRSTUVWXYZ0123456789ABCDEFGHIJKLMNOPQRSTUVWXYZ0123456789ABCDEFGHIJKLMNOPQRSTUVWXYZ0123456789ABCDEFGHIJKLMNOPQRSTUVWXYZ0123456789ABCDEFGHIJKLMN\nABCDEFGH" (ok Field59A none "ABCDEFGH" [] ":59A:ABCDEFGH") ∷
    parse "3/+%C<Y*\r\nABCDEFGHIJKLMNOPQRSTUVWXYZ0123456789" (no 11 0) ∷
    without "AbCdEf12\r\n" (ok Field59NoOption none "" ("AbCdEf12" ∷ []) ":59:AbCdEf12") ∷
    without "/GB82WEST1234569876" (no 7 0) ∷
    parse "DEUTDEFF500" (ok Field59A none "DEUTDEFF500" [] ":59A:DEUTDEFF500") ∷
    parse "/C/;\nABCDEFGHIJKLMNO\nPQRSTUVWXYZ012UVWXYZ012345678" (ok Field59NoOption (some "C/;") "" ("ABCDEFGHIJKLMNO" ∷ "PQRSTUVWXYZ012UVWXYZ012345678" ∷ []) ":59:/C/;\nABCDEFGHIJKLMNO\nPQRSTUVWXYZ012UVWXYZ012345678") ∷
    by "C" "A" (ok Field59NoOption none "" ("A" ∷ []) ":59:A") ∷
    by "Y" "" (no 11 0) ∷
    by "Y" "//RT1\ny\na8[\n[1\n" (ok Field59NoOption (some "/RT1") "" ("y" ∷ "a8[" ∷ "[1" ∷ []) ":59://RT1\ny\na8[\n[1") ∷
    without " AbCdEf12\n1//=>('C\r\n2/z#c8|/" (ok Field59NoOption none "" (" AbCdEf12" ∷ "1//=>('C" ∷ "2/z#c8|/" ∷ []) ":59: AbCdEf12\n1//=>('C\n2/z#c8|/") ∷
    by "A" "/GB82WES\r123456987-5432\nDEUTDEFF" (ok Field59A (some "GB82WES\r123456987-5432") "DEUTDEFF" [] ":59A:/GB82WES\r123456987-5432\nDEUTDEFF") ∷
    without "//FW\na]>9\nABCDEFGHIJKLMNOPQRSTUEWXYZ012345697" (ok Field59NoOption (some "/FW") "" ("a]>9" ∷ "ABCDEFGHIJKLMNOPQRSTUEWXYZ012345697" ∷ []) ":59://FW\na]>9\nABCDEFGHIJKLMNOPQRSTUEWXYZ012345697") ∷
    parse "ABCQDEFGH" (ok Field59NoOption none "" ("ABCQDEFGH" ∷ []) ":59:ABCQDEFGH") ∷
    by "A" "/8(YX Y\r\n ABCDEF123AZ\nAbCdEf12\r\n3/|'\r\n/y};!\n DEUTDEFF500\n//.>0B" (no 9 2) ∷
    by "A" "/)@<#8\n ABCDEF123AZ\r\n/ABCDEFGHIJKLMNOPQRSTUVWXYZ01234567\r\n3/X#Y_ $\n5/ABCDEFGHIJKLMNOPQRSTUVWXYZ0123456\r\n\n/ABCDEFGHIJKLMNOPQRSTUVWXYZ012345678\n\n" (no 9 2) ∷
    without "/C/.\tc(]/9=" (no 3 1) ∷
    by "A" "/ABCDEFGHIJKLMNOPQRSTUVWXYZ0123X456789\nABCDEFGH" (no 9 1) ∷
    by "A" "/@" (no 8 0) ∷
    by "A" "// X|\n//B\"$1" (no 9 2) ∷
    by "A" "D0EU\rD\rFF500" (no 9 1) ∷
    by "A" "\n%B" (no 9 1) ∷
    without "JOHN SM" (ok Field59NoOption none "" ("JOHN SM" ∷ []) ":59:JOHN SM") ∷
    by "H" "'Y-\r\n" (ok Field59NoOption none "" ("'Y-" ∷ []) ":59:'Y-") ∷
    by "A" "/GB82WE\n^T123456987" (no 10 2) ∷
    by "L" "/\r_\r\n10" (ok Field59NoOption (some "\r_") "" ("10" ∷ []) ":59:/\r_\n10") ∷
    by "A" "//z!$)*?\n/-" (no 9 2) ∷
    by "K" "ABCDEFGHIJKLMNOPQRSTUVWXYZQRSTUVWXYZ01234567\ny\n<[" (no 11 0) ∷
    without "/C/ABC" (no 7 0) ∷
    by "Z" "JOHN SMI-TH\n45" (ok Field59NoOption none "" ("JOHN SMI-TH" ∷ "45" ∷ []) ":59:JOHN SMI-TH\n45") ∷
    by "A" "//RT1\nDEUTDEFF500" (ok Field59A (some "/RT1") "DEUTDEFF500" [] ":59A://RT1\nDEUTDEFF500") ∷
    without "0/[$b{\r\n/*8&z>_\n\r/ABCDEFGHIJKLMNOPQRSTUVWXYZ01234567\n4/ABCDEFGHIJKLMNOPQRSTUVWXYZ0123456\n/AB/8>)yy8\n6/ABCDEFGHIJKLMNOPQRSTUVWXYZ012345\n" (no 4 3) ∷
    parse "/C/ABCDEFGHIJKLMNOPQ9STVWXYZ012345\nABCDEF1023AZ" (ok Field59NoOption (some "C/ABCDEFGHIJKLMNOPQ9STVWXYZ012345") "" ("ABCDEF1023AZ" ∷ []) ":59:/C/ABCDEFGHIJKLMNOPQ9STVWXYZ012345\nABCDEF1023AZ") ∷
    by "A" "AByD~FG" (no 9 1) ∷
    by "K" "JOHN SMITH\n456 AVENUE\nLO" (ok Field59NoOption none "" ("JOHN SMITH" ∷ "456 AVENUE" ∷ "LO" ∷ []) ":59:JOHN SMITH\n456 AVENUE\nLO") ∷
    by "F" "//8# \n8/;x\n2/\"XZ" (ok Field59NoOption (some "/8# ") "" ("8/;x" ∷ "2/\"XZ" ∷ []) ":59://8# \n8/;x\n2/\"XZ") ∷
    without "/%\n|x]@0\n/_Bx\n@C\n" (ok Field59NoOption (some "%") "" ("|x]@0" ∷ "/_Bx" ∷ "@C" ∷ []) ":59:/%\n|x]@0\n/_Bx\n@C") ∷
    parse "A-\r\n\n\r\n%[\r\n\r\n}(]" (no 11 0) ∷
    parse "/A/-='-0+\r/y'*%(z\r\n" (no 11 0) ∷
    by "K" "/xB\r" (no 11 0) ∷
    parse "/\rC/]%$?\n+\n_=\n-$ Z!\nABCDEFGH\nIJKLMNOPQRSTUVWXYZ012345678\n" (no 11 0) ∷
    by "Y" "//\n\n" (ok Field59NoOption (some "/") "" ("" ∷ []) ":59://\n") ∷
    by "C" "de\u{2}utdeff" (no 11 0) ∷
    parse "/A\rBCDEFGHIJKLMNOPQRSTUVWXYZ0F234567\nABCDEFGH\n" (no 11 0) ∷
    without "\n deutdeff\r2/>Y\r3/ABCDEFGHIJKLMNOPQRSTUVWXYZ012345\nABCDEFGHIJKLMNOPQRSTUVWXYZ0123456\n/\r\n//{Z " (no 4 2) ∷
    by "A" "ABCDEFGHIJKL\r/ (&&>/ABCDEFGHIJKLMNOPQRSTUVWXYZ012345678\r\ndeutdeff" (no 9 1) ∷
    without "A\n" (ok Field59NoOption none "" ("A" ∷ []) ":59:A") ∷
    by "A" "cy%\"\n" (no 9 1) ∷
    by "A" "ABCDEFG\n/[<%/=\r\n" (no 9 1) ∷
    parse "/A\nA-CDFGH" (ok Field59NoOption (some "A") "" ("A-CDFGH" ∷ []) ":59:/A\nA-CDFGH") ∷
    without "JOHN SMITH\n456 AVENUE\nLON0ON\nGB" (ok Field59NoOption none "" ("JOHN SMITH" ∷ "456 AVENUE" ∷ "LON0ON" ∷ "GB" ∷ []) ":59:JOHN SMITH\n456 AVENUE\nLON0ON\nGB") ∷
    without "//CH123456\r\n0/<\r\n\r\n'\r\n><C+" (ok Field59NoOption (some "/CH123456") "" ("0/<" ∷ "" ∷ "'" ∷ "><C+" ∷ []) ":59://CH123456\n0/<\n\n'\n><C+") ∷
    without "!0Y+#<\r\n_@/\r\n;CZ1\r\n+#<\r\n_@/\r\n;CZ1\r\nby(,/Z" (no 7 0) ∷
    parse "//FW\nABCDEFGH" (ok Field59A (some "/FW") "ABCDEFGH" [] ":59A://FW\nABCDEFGH") ∷
    by "A" "/ Az\nABCDEFGH\n~\n~" (ok Field59A (some " Az") "ABCDEFGH" [] ":59A:/ Az\nABCDEFGH") ∷
    by "K" "DEUTDEFF500" (ok Field59A none "DEUTDEFF500" [] ":59A:DEUTDEFF500") ∷
    parse "/AzABCDEFGH\r\n" (no 11 0) ∷
    by "Z" "A\t\nB" (no 11 0) ∷
    without "//FW\nAc\n\";-\n(}Z" (ok Field59NoOption (some "/FW") "" ("Ac" ∷ "\";-" ∷ "(}Z" ∷ []) ":59://FW\nAc\n\";-\n(}Z") ∷
    without "_;==\r1/B;\n\n\n" (ok Field59NoOption none "" ("_;==\r1/B;" ∷ "" ∷ "" ∷ []) ":59:_;==\r1/B;\n\n") ∷
    by "H" "\nABCDEFGHIJKLMNOPQRSTUVWXYZ01234567\n/ABCDEFGHIJKLMNOPQRSTUVWXYZ012345678" (no 11 0) ∷
    without "2/(9.\r0/ABCDEFGHIJKLMNOPQRSTUVWXYZ0123456\n\r" (no 4 1) ∷
    without "/ABCDEFGHIJKLMNOPQRSTUVWXYZ\r12345167" (no 4 1) ∷
    parse "D\nEUTDEFF500\nDEFF500\nNOT" (ok Field59NoOption none "" ("D" ∷ "EUTDEFF500" ∷ "DEFF500" ∷ "NOT" ∷ []) ":59:D\nEUTDEFF500\nDEFF500\nNOT") ∷
    parse "A\0BCDEFGH" (no 11 0) ∷
    parse "/%X\nbZZ\n" (ok Field59NoOption (some "%X") "" ("bZZ" ∷ []) ":59:/%X\nbZZ") ∷
    by "A" "/{{9-\r\nABCDE9-\r\nABCDEFGH" (no 9 2) ∷
    without "}\n#\n@b&<_\nABCDEFGHIKLMNOPQRSTUVWXYZ01234567" (ok Field59NoOption none "" ("}" ∷ "#" ∷ "@b&<_" ∷ "ABCDEFGHIKLMNOPQRSTUVWXYZ01234567" ∷ []) ":59:}\n#\n@b&<_\nABCDEFGHIKLMNOPQRSTUVWXYZ01234567") ∷
    without "ABCDEFGHIJKLMNOPQRSTUVWXYZ012345678\r\n9a0[x<[\r\n<,(\r\\\n" (no 3 3) ∷
    by "A" "/]y?-\\\nABCDEF123AZ" (no 3 1) ∷
    by "A" "0/c+cY\n/,\n//\"\r\n\rABCDEFGHIJKLMNOPQRSTUVWXYZ0123456\r//b! %" (no 9 1) ∷
    by "Y" "/ABCDEFGHIJKLMNOPQRSTUVWXYZ01234567\nUBSWCHZ0" (ok Field59A (some "ABCDEFGHIJKLMNOPQRSTUVWXYZ01234567") "UBSWCHZ0" [] ":59A:/ABCDEFGHIJKLMNOPQRSTUVWXYZ01234567\nUBSWCHZ0") ∷
    by "A" "/x'\r\nDEUTDEFF5" (no 9 2) ∷
    by "A" "ABCDEFGHIJKLMNOPQRSTUVWXYZ0123456\nABCDEFGHIJKLMNOPQRSTUVWXYZ012345678\n AbCdEf12\ndeutdeff\na[=Z\n/a{z\r" (no 9 1) ∷
    by "C" "/C/ABCDEFGHIJKLMNOPQRSTUVWXYZ01234\nABCDEFGHIJKLMNOPQRSTUVWXYZ01234567\nz}|c@0\n-yc\n1x'+'" (ok Field59NoOption (some "C/ABCDEFGHIJKLMNOPQRSTUVWXYZ01234") "" ("ABCDEFGHIJKLMNOPQRSTUVWXYZ01234567" ∷ "z}|c@0" ∷ "-yc" ∷ "1x'+'" ∷ []) ":59:/C/ABCDEFGHIJKLMNOPQRSTUVWXYZ01234\nABCDEFGHIJKLMNOPQRSTUVWXYZ01234567\nz}|c@0\n-yc\n1x'+'") ∷
    parse "/A\nAB\u{8}CDEFGHI]JKL" (no 11 0) ∷
    by "A" "/b,1Y\n1/\n1/Z>8}zY\r9/:" (no 9 2) ∷
    by "A" "ABCDEF123AZ" (ok Field59A none "ABCDEF123AZ" [] ":59A:ABCDEF123AZ") ∷
    by "G" "/=\n,/8&[\n1$$}\nYZ-" (ok Field59NoOption (some "=") "" (",/8&[" ∷ "1$$}" ∷ "YZ-" ∷ []) ":59:/=\n,/8&[\n1$$}\nYZ-") ∷
    by "Y" "ABCDEFGHI\nDEUTDEFF500" (ok Field59NoOption none "" ("ABCDEFGHI" ∷ "DEUTDEFF500" ∷ []) ":59:ABCDEFGHI\nDEUTDEFF500") ∷
    without "0/B!:\n/]C/.\n\n" (ok Field59NoOption none "" ("0/B!:" ∷ "/]C/." ∷ "" ∷ []) ":59:0/B!:\n/]C/.\n") ∷
    by "A" "ABDE0GH~" (no 10 1) ∷
    by "C" "//b9)-,\n ABCDEFGH\r\n2/ABCDEFGHIJKLMNOPQRSTUVWXYZ0123456\r\n//ABCDEFGHIJKLMNOPQRSTUVWXYZ01234567\n//_" (no 11 0) ∷
    parse "deutdeff\r\n" (ok Field59A none "deutdeff" [] ":59A:deutdeff") ∷
    without "/A\nAHDEFGH\n\n" (ok Field59NoOption (some "A") "" ("AHDEFGH" ∷ "" ∷ []) ":59:/A\nAHDEFGH\n") ∷
    by "K" "//CH123456\r6\r\n<C--\r\n\r\n0x{\r\nY/!=\"\r\n" (ok Field59NoOption (some "/CH123456\r6") "" ("<C--" ∷ "" ∷ "0x{" ∷ "Y/!=\"" ∷ []) ":59://CH123456\r6\n<C--\n\n0x{\nY/!=\"") ∷
    by "G" "/('y[Y\nABCDEFGHIJKLMNOPQRSTUVWXYZ01234567\nY\"z.bZ\n" (ok Field59NoOption (some "('y[Y") "" ("ABCDEFGHIJKLMNOPQRSTUVWXYZ01234567" ∷ "Y\"z.bZ" ∷ []) ":59:/('y[Y\nABCDEFGHIJKLMNOPQRSTUVWXYZ01234567\nY\"z.bZ") ∷
    parse "\r\n" (ok Field59NoOption none "" ("" ∷ []) ":59:") ∷
    []

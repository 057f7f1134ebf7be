-- Made of crates/replay/stdin by tests/rust/listed: the cases of Field50Creditor.
use Rattle.std.specs.Prelude.{List, [], ◌∷◌}
use Rattle.std.proofs.Math.Option.{none, some}
use Rattle.party.specs.declared.PartyOption.TheVariants.{Field50A, Field50K}
use Rattle.swift_mt_message.specs.Cases.{Case, parse, without, by, ok, no}

abbrev pub cases : List Case
cases =
    parse "" (no 11 0) ∷
    by "a" "" (no 11 0) ∷
    by "A" "" (no 1 0) ∷
    by "A" "//\nABCDEFGH" (no 2 1) ∷
    by "A" "/~\nABCDEFGH" (no 3 1) ∷
    by "A" "/A" (no 8 0) ∷
    by "A" "ABCDEFG" (no 9 1) ∷
    by "A" "/C/1\nABCDEFG" (no 9 2) ∷
    by "A" "1BCDEFGH" (no 10 1) ∷
    by "A" "/C/1\n1BCDEFGH" (no 10 2) ∷
    by "K" "" (no 1 0) ∷
    by "K" "/ABCDEFGHIJKLMNOPQRSTUVWXYZ0123456789\nA" (no 2 1) ∷
    by "K" "~\n~" (no 3 1) ∷
    by "K" "A\n~\n~" (no 3 2) ∷
    by "K" "A\nA\n~\n~" (no 3 3) ∷
    by "K" "A\nA\nA\n~\n~" (no 3 4) ∷
    by "K" "A\nA\nA\nA\n~\n~" (no 3 5) ∷
    by "K" "A\nA\nA\nA\nA\n~\n~" (no 3 6) ∷
    by "K" "A\nA\nA\nA\nA\nA\n~\n~" (no 3 7) ∷
    by "K" "A\nA\nA\nA\nA\nA\nA\n~\n~" (no 3 8) ∷
    by "K" "A\nA\nA\nA\nA\nA\nA\nA\n~\n~" (no 3 9) ∷
    by "K" "A\nA\nA\nA\nA\nA\nA\nA\nA\n~\n~" (no 3 10) ∷
    by "K" "A\nA\nA\nA\nA\nA\nA\nA\nA\nA\n~\n~" (no 3 11) ∷
    by "K" "A\nA\nA\nA\nA\nA\nA\nA\nA\nA\nA\nA\nA\nA\nA\nA\nA\nA\nA\nA\nA\nA\nA\nA\nA\nA\nA\nA\nA\nA\nA\nA\nA\nA\nA\nA\nA\nA\nA\n~\n~" (no 3 40) ∷
    by "K" "ABCDEFGHIJKLMNOPQRSTUVWXYZ0123456789\n~" (no 4 1) ∷
    by "K" "A\nABCDEFGHIJKLMNOPQRSTUVWXYZ0123456789\n~" (no 4 2) ∷
    by "K" "A\nA\nABCDEFGHIJKLMNOPQRSTUVWXYZ0123456789\n~" (no 4 3) ∷
    by "K" "A\nA\nA\nABCDEFGHIJKLMNOPQRSTUVWXYZ0123456789\n~" (no 4 4) ∷
    by "K" "A\nA\nA\nA\nABCDEFGHIJKLMNOPQRSTUVWXYZ0123456789\n~" (no 4 5) ∷
    by "K" "A\nA\nA\nA\nA\nABCDEFGHIJKLMNOPQRSTUVWXYZ0123456789\n~" (no 4 6) ∷
    by "K" "A\nA\nA\nA\nA\nA\nABCDEFGHIJKLMNOPQRSTUVWXYZ0123456789\n~" (no 4 7) ∷
    by "K" "A\nA\nA\nA\nA\nA\nA\nABCDEFGHIJKLMNOPQRSTUVWXYZ0123456789\n~" (no 4 8) ∷
    by "K" "A\nA\nA\nA\nA\nA\nA\nA\nABCDEFGHIJKLMNOPQRSTUVWXYZ0123456789\n~" (no 4 9) ∷
    by "K" "A\nA\nA\nA\nA\nA\nA\nA\nA\nABCDEFGHIJKLMNOPQRSTUVWXYZ0123456789\n~" (no 4 10) ∷
    by "K" "A\nA\nA\nA\nA\nA\nA\nA\nA\nA\nABCDEFGHIJKLMNOPQRSTUVWXYZ0123456789\n~" (no 4 11) ∷
    by "K" "A\nA\nA\nA\nA\nA\nA\nA\nA\nA\nA\nA\nA\nA\nA\nA\nA\nA\nA\nA\nA\nA\nA\nA\nA\nA\nA\nA\nA\nA\nA\nA\nA\nA\nA\nA\nA\nA\nA\nABCDEFGHIJKLMNOPQRSTUVWXYZ0123456789\n~" (no 4 40) ∷
    by "K" "/A" (no 7 0) ∷
    parse "ABCDEFGH" (ok Field50A none "ABCDEFGH" [] ":50A:ABCDEFGH") ∷
    parse "~" (no 11 0) ∷
    parse "/~\n~" (no 11 0) ∷
    parse "/DE89370400440532013000\nDEUTDEFF" (ok Field50A (some "DE89370400440532013000") "DEUTDEFF" [] ":50A:/DE89370400440532013000\nDEUTDEFF") ∷
    parse "/C/12345678\nDEUTDEFF500\nNOT READ" (ok Field50K (some "C/12345678") "" ("DEUTDEFF500" ∷ "NOT READ" ∷ []) ":50K:/C/12345678\nDEUTDEFF500\nNOT READ") ∷
    parse "//CH123456\nUBSWCHZH80A" (ok Field50A (some "/CH123456") "UBSWCHZH80A" [] ":50A://CH123456\nUBSWCHZH80A") ∷
    parse "abcdef12" (ok Field50A none "abcdef12" [] ":50A:abcdef12") ∷
    parse "A\nB" (ok Field50K none "" ("A" ∷ "B" ∷ []) ":50K:A\nB") ∷
    parse "/DE89370400440532013000\nJOHN DOE\n123 MAIN STREET\nBERLIN" (ok Field50K (some "DE89370400440532013000") "" ("JOHN DOE" ∷ "123 MAIN STREET" ∷ "BERLIN" ∷ []) ":50K:/DE89370400440532013000\nJOHN DOE\n123 MAIN STREET\nBERLIN") ∷
    parse "JOHN DOE\r\n123 MAIN STREET" (ok Field50K none "" ("JOHN DOE" ∷ "123 MAIN STREET" ∷ []) ":50K:JOHN DOE\n123 MAIN STREET") ∷
    without "ABCDEFGH" (ok Field50A none "ABCDEFGH" [] ":50A:ABCDEFGH") ∷
    without "" (no 11 0) ∷
    without "~" (no 11 0) ∷
    without "/~\n~" (no 11 0) ∷
    without "/DE89370400440532013000\nDEUTDEFF" (ok Field50A (some "DE89370400440532013000") "DEUTDEFF" [] ":50A:/DE89370400440532013000\nDEUTDEFF") ∷
    without "/C/12345678\nDEUTDEFF500\nNOT READ" (ok Field50K (some "C/12345678") "" ("DEUTDEFF500" ∷ "NOT READ" ∷ []) ":50K:/C/12345678\nDEUTDEFF500\nNOT READ") ∷
    without "//CH123456\nUBSWCHZH80A" (ok Field50A (some "/CH123456") "UBSWCHZH80A" [] ":50A://CH123456\nUBSWCHZH80A") ∷
    without "abcdef12" (ok Field50A none "abcdef12" [] ":50A:abcdef12") ∷
    without "A\nB" (ok Field50K none "" ("A" ∷ "B" ∷ []) ":50K:A\nB") ∷
    without "/DE89370400440532013000\nJOHN DOE\n123 MAIN STREET\nBERLIN" (ok Field50K (some "DE89370400440532013000") "" ("JOHN DOE" ∷ "123 MAIN STREET" ∷ "BERLIN" ∷ []) ":50K:/DE89370400440532013000\nJOHN DOE\n123 MAIN STREET\nBERLIN") ∷
    without "JOHN DOE\r\n123 MAIN STREET" (ok Field50K none "" ("JOHN DOE" ∷ "123 MAIN STREET" ∷ []) ":50K:JOHN DOE\n123 MAIN STREET") ∷
    by "A" "ABCDEFGH" (ok Field50A none "ABCDEFGH" [] ":50A:ABCDEFGH") ∷
    by "A" "~" (no 9 1) ∷
    by "A" "/~\n~" (no 3 1) ∷
    by "A" "/DE89370400440532013000\nDEUTDEFF" (ok Field50A (some "DE89370400440532013000") "DEUTDEFF" [] ":50A:/DE89370400440532013000\nDEUTDEFF") ∷
    by "A" "/C/12345678\nDEUTDEFF500\nNOT READ" (ok Field50A (some "C/12345678") "DEUTDEFF500" [] ":50A:/C/12345678\nDEUTDEFF500") ∷
    by "A" "//CH123456\nUBSWCHZH80A" (ok Field50A (some "/CH123456") "UBSWCHZH80A" [] ":50A://CH123456\nUBSWCHZH80A") ∷
    by "A" "abcdef12" (ok Field50A none "abcdef12" [] ":50A:abcdef12") ∷
    by "A" "A\nB" (no 9 1) ∷
    by "A" "/DE89370400440532013000\nJOHN DOE\n123 MAIN STREET\nBERLIN" (no 10 2) ∷
    by "A" "JOHN DOE\r\n123 MAIN STREET" (no 10 1) ∷
    by "K" "ABCDEFGH" (ok Field50K none "" ("ABCDEFGH" ∷ []) ":50K:ABCDEFGH") ∷
    by "K" "~" (no 3 1) ∷
    by "K" "/~\n~" (no 3 1) ∷
    by "K" "/DE89370400440532013000\nDEUTDEFF" (ok Field50K (some "DE89370400440532013000") "" ("DEUTDEFF" ∷ []) ":50K:/DE89370400440532013000\nDEUTDEFF") ∷
    by "K" "/C/12345678\nDEUTDEFF500\nNOT READ" (ok Field50K (some "C/12345678") "" ("DEUTDEFF500" ∷ "NOT READ" ∷ []) ":50K:/C/12345678\nDEUTDEFF500\nNOT READ") ∷
    by "K" "//CH123456\nUBSWCHZH80A" (ok Field50K (some "/CH123456") "" ("UBSWCHZH80A" ∷ []) ":50K://CH123456\nUBSWCHZH80A") ∷
    by "K" "abcdef12" (ok Field50K none "" ("abcdef12" ∷ []) ":50K:abcdef12") ∷
    by "K" "A\nB" (ok Field50K none "" ("A" ∷ "B" ∷ []) ":50K:A\nB") ∷
    by "K" "/DE89370400440532013000\nJOHN DOE\n123 MAIN STREET\nBERLIN" (ok Field50K (some "DE89370400440532013000") "" ("JOHN DOE" ∷ "123 MAIN STREET" ∷ "BERLIN" ∷ []) ":50K:/DE89370400440532013000\nJOHN DOE\n123 MAIN STREET\nBERLIN") ∷
    by "K" "JOHN DOE\r\n123 MAIN STREET" (ok Field50K none "" ("JOHN DOE" ∷ "123 MAIN STREET" ∷ []) ":50K:JOHN DOE\n123 MAIN STREET") ∷
    by "B" "ABCDEFGH" (ok Field50A none "ABCDEFGH" [] ":50A:ABCDEFGH") ∷
    by "C" "ABCDEFGH" (ok Field50A none "ABCDEFGH" [] ":50A:ABCDEFGH") ∷
    by "F" "ABCDEFGH" (ok Field50A none "ABCDEFGH" [] ":50A:ABCDEFGH") ∷
    by "G" "ABCDEFGH" (ok Field50A none "ABCDEFGH" [] ":50A:ABCDEFGH") ∷
    by "H" "ABCDEFGH" (ok Field50A none "ABCDEFGH" [] ":50A:ABCDEFGH") ∷
    by "L" "ABCDEFGH" (ok Field50A none "ABCDEFGH" [] ":50A:ABCDEFGH") ∷
    by "Y" "ABCDEFGH" (ok Field50A none "ABCDEFGH" [] ":50A:ABCDEFGH") ∷
    by "Z" "ABCDEFGH" (ok Field50A none "ABCDEFGH" [] ":50A:ABCDEFGH") ∷
    by "B" "" (no 11 0) ∷
    by "B" "~" (no 11 0) ∷
    by "B" "/~\n~" (no 11 0) ∷
    by "B" "/DE89370400440532013000\nDEUTDEFF" (ok Field50A (some "DE89370400440532013000") "DEUTDEFF" [] ":50A:/DE89370400440532013000\nDEUTDEFF") ∷
    by "B" "/C/12345678\nDEUTDEFF500\nNOT READ" (ok Field50K (some "C/12345678") "" ("DEUTDEFF500" ∷ "NOT READ" ∷ []) ":50K:/C/12345678\nDEUTDEFF500\nNOT READ") ∷
    by "B" "//CH123456\nUBSWCHZH80A" (ok Field50A (some "/CH123456") "UBSWCHZH80A" [] ":50A://CH123456\nUBSWCHZH80A") ∷
    by "B" "abcdef12" (ok Field50A none "abcdef12" [] ":50A:abcdef12") ∷
    by "B" "A\nB" (ok Field50K none "" ("A" ∷ "B" ∷ []) ":50K:A\nB") ∷
    by "B" "/DE89370400440532013000\nJOHN DOE\n123 MAIN STREET\nBERLIN" (ok Field50K (some "DE89370400440532013000") "" ("JOHN DOE" ∷ "123 MAIN STREET" ∷ "BERLIN" ∷ []) ":50K:/DE89370400440532013000\nJOHN DOE\n123 MAIN STREET\nBERLIN") ∷
    by "B" "JOHN DOE\r\n123 MAIN STREET" (ok Field50K none "" ("JOHN DOE" ∷ "123 MAIN STREET" ∷ []) ":50K:JOHN DOE\n123 MAIN STREET") ∷
    by "a" "ABCDEFGH" (ok Field50A none "ABCDEFGH" [] ":50A:ABCDEFGH") ∷
    by "c" "ABCDEFGH" (ok Field50A none "ABCDEFGH" [] ":50A:ABCDEFGH") ∷
    by "f" "ABCDEFGH" (ok Field50A none "ABCDEFGH" [] ":50A:ABCDEFGH") ∷
    by "z" "ABCDEFGH" (ok Field50A none "ABCDEFGH" [] ":50A:ABCDEFGH") ∷
    by "0" "ABCDEFGH" (ok Field50A none "ABCDEFGH" [] ":50A:ABCDEFGH") ∷
    by "5" "ABCDEFGH" (ok Field50A none "ABCDEFGH" [] ":50A:ABCDEFGH") ∷
    by "9" "ABCDEFGH" (ok Field50A none "ABCDEFGH" [] ":50A:ABCDEFGH") ∷
    by "\u{1}" "ABCDEFGH" (ok Field50A none "ABCDEFGH" [] ":50A:ABCDEFGH") ∷
    by "\t" "ABCDEFGH" (ok Field50A none "ABCDEFGH" [] ":50A:ABCDEFGH") ∷
    by "\n" "ABCDEFGH" (ok Field50A none "ABCDEFGH" [] ":50A:ABCDEFGH") ∷
    by " " "ABCDEFGH" (ok Field50A none "ABCDEFGH" [] ":50A:ABCDEFGH") ∷
    by "/" "ABCDEFGH" (ok Field50A none "ABCDEFGH" [] ":50A:ABCDEFGH") ∷
    by ":" "ABCDEFGH" (ok Field50A none "ABCDEFGH" [] ":50A:ABCDEFGH") ∷
    by "@" "ABCDEFGH" (ok Field50A none "ABCDEFGH" [] ":50A:ABCDEFGH") ∷
    by "[" "ABCDEFGH" (ok Field50A none "ABCDEFGH" [] ":50A:ABCDEFGH") ∷
    by "`" "ABCDEFGH" (ok Field50A none "ABCDEFGH" [] ":50A:ABCDEFGH") ∷
    by "{" "ABCDEFGH" (ok Field50A none "ABCDEFGH" [] ":50A:ABCDEFGH") ∷
    by "~" "ABCDEFGH" (ok Field50A none "ABCDEFGH" [] ":50A:ABCDEFGH") ∷
    by "\u{7f}" "ABCDEFGH" (ok Field50A none "ABCDEFGH" [] ":50A:ABCDEFGH") ∷
    parse "JOHNDOES\n" (ok Field50A none "JOHNDOES" [] ":50A:JOHNDOES") ∷
    parse "JOHNDOES\n " (ok Field50K none "" ("JOHNDOES" ∷ " " ∷ []) ":50K:JOHNDOES\n ") ∷
    parse "JOHNDOES\n\t\r\n" (no 11 0) ∷
    parse "JOHNDOES\n\n\u{b}\u{c}  " (no 11 0) ∷
    parse "JOHNDOES\nA" (ok Field50K none "" ("JOHNDOES" ∷ "A" ∷ []) ":50K:JOHNDOES\nA") ∷
    parse "JOHNDOES\n A" (ok Field50K none "" ("JOHNDOES" ∷ " A" ∷ []) ":50K:JOHNDOES\n A") ∷
    parse "JOHNDOES\nA\t\r\n" (no 11 0) ∷
    parse "JOHNDOES\n\n\u{b}\u{c}A  " (no 11 0) ∷
    parse "JOHNDOES\nABCDEFG" (ok Field50K none "" ("JOHNDOES" ∷ "ABCDEFG" ∷ []) ":50K:JOHNDOES\nABCDEFG") ∷
    parse "JOHNDOES\n ABCDEFG" (ok Field50K none "" ("JOHNDOES" ∷ " ABCDEFG" ∷ []) ":50K:JOHNDOES\n ABCDEFG") ∷
    parse "JOHNDOES\nABCDEFG\t\r\n" (no 11 0) ∷
    parse "JOHNDOES\n\n\u{b}\u{c}ABCDEFG  " (no 11 0) ∷
    parse "JOHNDOES\nABCDEFGH" (ok Field50A none "JOHNDOES" [] ":50A:JOHNDOES") ∷
    parse "JOHNDOES\n ABCDEFGH" (ok Field50A none "JOHNDOES" [] ":50A:JOHNDOES") ∷
    parse "JOHNDOES\nABCDEFGH\t\r\n" (ok Field50A none "JOHNDOES" [] ":50A:JOHNDOES") ∷
    parse "JOHNDOES\n\n\u{b}\u{c}ABCDEFGH  " (ok Field50A none "JOHNDOES" [] ":50A:JOHNDOES") ∷
    parse "JOHNDOES\nABCDEFGHI" (ok Field50K none "" ("JOHNDOES" ∷ "ABCDEFGHI" ∷ []) ":50K:JOHNDOES\nABCDEFGHI") ∷
    parse "JOHNDOES\n ABCDEFGHI" (ok Field50K none "" ("JOHNDOES" ∷ " ABCDEFGHI" ∷ []) ":50K:JOHNDOES\n ABCDEFGHI") ∷
    parse "JOHNDOES\nABCDEFGHI\t\r\n" (no 11 0) ∷
    parse "JOHNDOES\n\n\u{b}\u{c}ABCDEFGHI  " (no 11 0) ∷
    parse "JOHNDOES\nABCDEFGHIJ" (ok Field50K none "" ("JOHNDOES" ∷ "ABCDEFGHIJ" ∷ []) ":50K:JOHNDOES\nABCDEFGHIJ") ∷
    parse "JOHNDOES\n ABCDEFGHIJ" (ok Field50K none "" ("JOHNDOES" ∷ " ABCDEFGHIJ" ∷ []) ":50K:JOHNDOES\n ABCDEFGHIJ") ∷
    parse "JOHNDOES\nABCDEFGHIJ\t\r\n" (no 11 0) ∷
    parse "JOHNDOES\n\n\u{b}\u{c}ABCDEFGHIJ  " (no 11 0) ∷
    parse "JOHNDOES\nABCDEFGHIJK" (ok Field50A none "JOHNDOES" [] ":50A:JOHNDOES") ∷
    parse "JOHNDOES\n ABCDEFGHIJK" (ok Field50A none "JOHNDOES" [] ":50A:JOHNDOES") ∷
    parse "JOHNDOES\nABCDEFGHIJK\t\r\n" (ok Field50A none "JOHNDOES" [] ":50A:JOHNDOES") ∷
    parse "JOHNDOES\n\n\u{b}\u{c}ABCDEFGHIJK  " (ok Field50A none "JOHNDOES" [] ":50A:JOHNDOES") ∷
    parse "JOHNDOES\nABCDEFGHIJKL" (ok Field50K none "" ("JOHNDOES" ∷ "ABCDEFGHIJKL" ∷ []) ":50K:JOHNDOES\nABCDEFGHIJKL") ∷
    parse "JOHNDOES\n ABCDEFGHIJKL" (ok Field50K none "" ("JOHNDOES" ∷ " ABCDEFGHIJKL" ∷ []) ":50K:JOHNDOES\n ABCDEFGHIJKL") ∷
    parse "JOHNDOES\nABCDEFGHIJKL\t\r\n" (no 11 0) ∷
    parse "JOHNDOES\n\n\u{b}\u{c}ABCDEFGHIJKL  " (no 11 0) ∷
    parse "\rABCDEFGH" (ok Field50K none "" ("\rABCDEFGH" ∷ []) ":50K:\rABCDEFGH") ∷
    parse "A\rBCDEFGH" (ok Field50K none "" ("A\rBCDEFGH" ∷ []) ":50K:A\rBCDEFGH") ∷
    parse "AB\rCDEFGH" (ok Field50K none "" ("AB\rCDEFGH" ∷ []) ":50K:AB\rCDEFGH") ∷
    parse "ABC\rDEFGH" (ok Field50K none "" ("ABC\rDEFGH" ∷ []) ":50K:ABC\rDEFGH") ∷
    parse "ABCD\rEFGH" (ok Field50K none "" ("ABCD\rEFGH" ∷ []) ":50K:ABCD\rEFGH") ∷
    parse "ABCDE\rFGH" (ok Field50K none "" ("ABCDE\rFGH" ∷ []) ":50K:ABCDE\rFGH") ∷
    parse "ABCDEF\rGH" (ok Field50K none "" ("ABCDEF\rGH" ∷ []) ":50K:ABCDEF\rGH") ∷
    parse "ABCDEFG\rH" (ok Field50K none "" ("ABCDEFG\rH" ∷ []) ":50K:ABCDEFG\rH") ∷
    parse "ABCDEFGH\r" (ok Field50K none "" ("ABCDEFGH\r" ∷ []) ":50K:ABCDEFGH\r") ∷
    parse "\nABCDEFGH" (ok Field50K none "" ("" ∷ "ABCDEFGH" ∷ []) ":50K:\nABCDEFGH") ∷
    parse "A\nBCDEFGH" (ok Field50K none "" ("A" ∷ "BCDEFGH" ∷ []) ":50K:A\nBCDEFGH") ∷
    parse "AB\nCDEFGH" (ok Field50K none "" ("AB" ∷ "CDEFGH" ∷ []) ":50K:AB\nCDEFGH") ∷
    parse "ABC\nDEFGH" (ok Field50K none "" ("ABC" ∷ "DEFGH" ∷ []) ":50K:ABC\nDEFGH") ∷
    parse "ABCD\nEFGH" (ok Field50K none "" ("ABCD" ∷ "EFGH" ∷ []) ":50K:ABCD\nEFGH") ∷
    parse "ABCDE\nFGH" (ok Field50K none "" ("ABCDE" ∷ "FGH" ∷ []) ":50K:ABCDE\nFGH") ∷
    parse "ABCDEF\nGH" (ok Field50K none "" ("ABCDEF" ∷ "GH" ∷ []) ":50K:ABCDEF\nGH") ∷
    parse "ABCDEFG\nH" (ok Field50K none "" ("ABCDEFG" ∷ "H" ∷ []) ":50K:ABCDEFG\nH") ∷
    parse "ABCDEFGH\n" (ok Field50A none "ABCDEFGH" [] ":50A:ABCDEFGH") ∷
    parse "\r\nABCDEFGH" (ok Field50K none "" ("" ∷ "ABCDEFGH" ∷ []) ":50K:\nABCDEFGH") ∷
    parse "A\r\nBCDEFGH" (ok Field50K none "" ("A" ∷ "BCDEFGH" ∷ []) ":50K:A\nBCDEFGH") ∷
    parse "AB\r\nCDEFGH" (ok Field50K none "" ("AB" ∷ "CDEFGH" ∷ []) ":50K:AB\nCDEFGH") ∷
    parse "ABC\r\nDEFGH" (ok Field50K none "" ("ABC" ∷ "DEFGH" ∷ []) ":50K:ABC\nDEFGH") ∷
    parse "ABCD\r\nEFGH" (ok Field50K none "" ("ABCD" ∷ "EFGH" ∷ []) ":50K:ABCD\nEFGH") ∷
    parse "ABCDE\r\nFGH" (ok Field50K none "" ("ABCDE" ∷ "FGH" ∷ []) ":50K:ABCDE\nFGH") ∷
    parse "ABCDEF\r\nGH" (ok Field50K none "" ("ABCDEF" ∷ "GH" ∷ []) ":50K:ABCDEF\nGH") ∷
    parse "ABCDEFG\r\nH" (ok Field50K none "" ("ABCDEFG" ∷ "H" ∷ []) ":50K:ABCDEFG\nH") ∷
    parse "ABCDEFGH\r\n" (ok Field50A none "ABCDEFGH" [] ":50A:ABCDEFGH") ∷
    parse "\rBCDEFGH" (ok Field50K none "" ("\rBCDEFGH" ∷ []) ":50K:\rBCDEFGH") ∷
    parse "A\rCDEFGH" (ok Field50K none "" ("A\rCDEFGH" ∷ []) ":50K:A\rCDEFGH") ∷
    parse "AB\rDEFGH" (ok Field50K none "" ("AB\rDEFGH" ∷ []) ":50K:AB\rDEFGH") ∷
    parse "ABC\rEFGH" (ok Field50K none "" ("ABC\rEFGH" ∷ []) ":50K:ABC\rEFGH") ∷
    parse "ABCD\rFGH" (ok Field50K none "" ("ABCD\rFGH" ∷ []) ":50K:ABCD\rFGH") ∷
    parse "ABCDE\rGH" (ok Field50K none "" ("ABCDE\rGH" ∷ []) ":50K:ABCDE\rGH") ∷
    parse "ABCDEF\rH" (ok Field50K none "" ("ABCDEF\rH" ∷ []) ":50K:ABCDEF\rH") ∷
    parse "ABCDEFG\r" (ok Field50K none "" ("ABCDEFG\r" ∷ []) ":50K:ABCDEFG\r") ∷
    parse "\nBCDEFGH" (ok Field50K none "" ("" ∷ "BCDEFGH" ∷ []) ":50K:\nBCDEFGH") ∷
    parse "A\nCDEFGH" (ok Field50K none "" ("A" ∷ "CDEFGH" ∷ []) ":50K:A\nCDEFGH") ∷
    parse "AB\nDEFGH" (ok Field50K none "" ("AB" ∷ "DEFGH" ∷ []) ":50K:AB\nDEFGH") ∷
    parse "ABC\nEFGH" (ok Field50K none "" ("ABC" ∷ "EFGH" ∷ []) ":50K:ABC\nEFGH") ∷
    parse "ABCD\nFGH" (ok Field50K none "" ("ABCD" ∷ "FGH" ∷ []) ":50K:ABCD\nFGH") ∷
    parse "ABCDE\nGH" (ok Field50K none "" ("ABCDE" ∷ "GH" ∷ []) ":50K:ABCDE\nGH") ∷
    parse "ABCDEF\nH" (ok Field50K none "" ("ABCDEF" ∷ "H" ∷ []) ":50K:ABCDEF\nH") ∷
    parse "ABCDEFG\n" (ok Field50K none "" ("ABCDEFG" ∷ []) ":50K:ABCDEFG") ∷
    parse "\rA\nB" (ok Field50K none "" ("\rA" ∷ "B" ∷ []) ":50K:\rA\nB") ∷
    parse "A\r\nB" (ok Field50K none "" ("A" ∷ "B" ∷ []) ":50K:A\nB") ∷
    parse "A\n\rB" (ok Field50K none "" ("A" ∷ "\rB" ∷ []) ":50K:A\n\rB") ∷
    parse "A\nB\r" (ok Field50K none "" ("A" ∷ "B\r" ∷ []) ":50K:A\nB\r") ∷
    parse "\nA\nB" (ok Field50K none "" ("" ∷ "A" ∷ "B" ∷ []) ":50K:\nA\nB") ∷
    parse "A\n\nB" (ok Field50K none "" ("A" ∷ "" ∷ "B" ∷ []) ":50K:A\n\nB") ∷
    parse "A\nB\n" (ok Field50K none "" ("A" ∷ "B" ∷ []) ":50K:A\nB") ∷
    parse "\r\nA\nB" (ok Field50K none "" ("" ∷ "A" ∷ "B" ∷ []) ":50K:\nA\nB") ∷
    parse "A\r\n\nB" (ok Field50K none "" ("A" ∷ "" ∷ "B" ∷ []) ":50K:A\n\nB") ∷
    parse "A\n\r\nB" (ok Field50K none "" ("A" ∷ "" ∷ "B" ∷ []) ":50K:A\n\nB") ∷
    parse "A\nB\r\n" (ok Field50K none "" ("A" ∷ "B" ∷ []) ":50K:A\nB") ∷
    parse "\r\nB" (ok Field50K none "" ("" ∷ "B" ∷ []) ":50K:\nB") ∷
    parse "A\rB" (ok Field50K none "" ("A\rB" ∷ []) ":50K:A\rB") ∷
    parse "A\n\r" (ok Field50K none "" ("A" ∷ "\r" ∷ []) ":50K:A\n\r") ∷
    parse "\n\nB" (ok Field50K none "" ("" ∷ "" ∷ "B" ∷ []) ":50K:\n\nB") ∷
    parse "A\n\n" (ok Field50K none "" ("A" ∷ "" ∷ []) ":50K:A\n") ∷
    parse "ABCDEFGH\nABCDEFGHIJKLMNOPQRSTUVWXYZ0123456789ABCDEFGHIJKLMNOPQRSTUVWXYZ0123456789ABCDEFGHIJKLMNOPQRSTUVWXYZ0123456789ABCDEFGHIJKLMNOPQRSTUVWXYZ0123456789ABCDEFGHIJKLMNOPQRSTUVWXYZ0123456789ABCDEFGHIJKLMNOPQRSTUVWXYZ0123456789ABCDEFGHIJKLMNOPQRSTUVWXYZ0123456789ABCDEFGHIJKLMNOPQRSTUVWXYZ0123456789ABCDEFGHIJKLMNOPQRSTUVWXYZ0123456789ABCDEFGHIJKLMNOPQRSTUVWXYZ0123456789ABCDEFGHIJKLMNOPQRSTUVWXYZ0123456789ABCDEFGHIJKLMNOPQRSTUVWXYZ0123456789ABCDEFGHIJKLMNOPQRSTUVWXYZ0123456789ABCDEFGHIJKLMNOPQRSTUVWXYZ0123456789ABCDEFGHIJKLMNOPQRSTUVWXYZ0123456789ABCDEFGHIJKLMNOPQRSTUVWXYZ0123456789ABCDEFGHIJKLMNOPQRSTUVWXYZ0123456789ABCDEFGHIJKLMNOPQRSTUVWXYZ0123456789ABCDEFGHIJKLMNOPQRSTUVWXYZ0123456789ABCDEFGHIJKLMNOPQRSTUVWXYZ0123456789ABCDEFGHIJKLMNOPQRSTUVWXYZ0123456789ABCDEFGHIJKLMNOPQRSTUVWXYZ0123456789ABCDEFGHIJKLMNOPQRSTUVWXYZ0123456789ABCDEFGHIJKLMNOPQRSTUVWXYZ0123456789ABCDEFGHIJKLMNOPQRSTUVWXYZ0123456789ABCDEFGHIJKLMNOPQRSTUVWXYZ0123456789ABCDEFGHIJKLMNOPQRSTUVWXYZ0123456789ABCDEFGHIJKLMNOPQRSTUVWXYZ0123456789ABCDEFGHIJKLMNOPQRSTUVWXYZ0123456789ABCDEFGHIJKLMNOPQRSTUVWXYZ0123456789ABCDEFGHIJKLMNOPQRSTUVWXYZ0123456789ABCDEFGHIJKLMNOPQRSTUVWXYZ0123456789ABCDEFGHIJKLMNOPQRSTUVWXYZ0123456789ABCDEFGHIJKLMNOPQRSTUVWXYZ0123456789ABCDEFGHIJKLMNOPQRSTUVWXYZ0123456789ABCDEFGHIJKLMNOPQRSTUVWXYZ0123456789ABCDEFGHIJKLMNOPQRSTUVWXYZ0123456789ABCDEFGHIJKLMNOPQRSTUVWXYZ0123456789ABCDEFGHIJKLMNOPQRSTUVWXYZ0123456789ABCDEFGHIJKLMNOPQRSTUVWXYZ0123456789ABCDEFGHIJKLMNOPQRSTUVWXYZ0123456789ABCDEFGHIJKLMNOPQRSTUVWXYZ0123456789ABCDEFGHIJKLMNOPQRSTUVWXYZ0123456789ABCDEFGHIJKLMNOPQRSTUVWXYZ0123456789ABCDEFGHIJKLMNOPQRSTUVWXYZ0123456789ABCDEFGHIJKLMNOPQRSTUVWXYZ0123456789ABCDEFGHIJKLMNOPQRSTUVWXYZ0123456789ABCDEFGHIJKLMNOPQRSTUVWXYZ0123456789ABCDEFGHIJKLMNOPQRSTUVWXYZ0123456789ABCDEFGHIJKLMNOPQRSTUVWXYZ0123456789ABCDEFGHIJKLMNOPQRSTUVWXYZ0123456789ABCDEFGHIJKLMNOPQRSTUVWXYZ0123456789ABCDEFGHIJKLMNOPQRSTUVWXYZ0123456789ABCDEFGHIJKLMNOPQRSTUVWXYZ0123456789ABCDEFGHIJKLMNOPQRSTUVWXYZ0123456789ABCDEFGHIJKLMNOPQRSTUVWXYZ0123456789ABCDEFGHIJKLMN\nABCDEFGH" (ok Field50A none "ABCDEFGH" [] ":50A:ABCDEFGH") ∷
    parse "//A\nA" (ok Field50K (some "/A") "" ("A" ∷ []) ":50K://A\nA") ∷
    parse "JOHN DOE\r\n123 MAIN STREEET" (ok Field50K none "" ("JOHN DOE" ∷ "123 MAIN STREEET" ∷ []) ":50K:JOHN DOE\n123 MAIN STREEET") ∷
    by "F" "0/\n1/\r\n//a#-%x" (ok Field50K none "" ("0/" ∷ "1/" ∷ "//a#-%x" ∷ []) ":50K:0/\n1/\n//a#-%x") ∷
    without "A" (ok Field50K none "" ("A" ∷ []) ":50K:A") ∷
    without "(X\r\n#.Y;[c\r\n[\0" (no 11 0) ∷
    by "A" "USWCHZ0" (no 9 1) ∷
    by "K" "/C/$*/\n\nABCDEFGHIJKLMNOPQRSTUVWXYZ01234567\nby\n{zb)9y\n{zb)90" (no 7 0) ∷
    without "/ZaC\nAbCdEf12" (ok Field50A (some "ZaC") "AbCdEf12" [] ":50A:/ZaC\nAbCdEf12") ∷
    by "K" "$ 0\r\nca1.\r\nAB 0\r\nca1.\r\nABCDEFGHI" (no 7 0) ∷
    by "Z" "/1=&b\r2/??a1|," (no 11 0) ∷
    by "F" "3/}9{]\n1/|<Z\n UBSWCHZ0" (ok Field50K none "" ("3/}9{]" ∷ "1/|<Z" ∷ " UBSWCHZ0" ∷ []) ":50K:3/}9{]\n1/|<Z\n UBSWCHZ0") ∷
    by "L" "{" (ok Field50K none "" ("{" ∷ []) ":50K:{") ∷
    by "K" "\nB" (ok Field50K none "" ("" ∷ "B" ∷ []) ":50K:\nB") ∷
    by "B" "/A/\n" (no 11 0) ∷
    without "//FW\nABCDEFGH\n" (ok Field50A (some "/FW") "ABCDEFGH" [] ":50A://FW\nABCDEFGH") ∷
    without "/C/1:X-}}\nAbCdEf12" (ok Field50A (some "C/1:X-}}") "AbCdEf12" [] ":50A:/C/1:X-}}\nAbCdEf12") ∷
    by "K" "/a\r/@/0[*\n" (no 7 0) ∷
    by "K" "\n/cCX/+*;{\n UBSWCHZ0" (ok Field50K none "" ("" ∷ "/cCX/+*;{" ∷ " UBSWCHZ0" ∷ []) ":50K:\n/cCX/+*;{\n UBSWCHZ0") ∷
    without "/DE89370400440532013000\nDEUT" (ok Field50K (some "DE89370400440532013000") "" ("DEUT" ∷ []) ":50K:/DE89370400440532013000\nDEUT") ∷
    by "H" "" (no 11 0) ∷
    parse "|.z @\r\n@y]%Z:\r\n!" (ok Field50K none "" ("|.z @" ∷ "@y]%Z:" ∷ "!" ∷ []) ":50K:|.z @\n@y]%Z:\n!") ∷
    by "K" "/'\nABCDEFGHIJKLMNOPQRASTUVWXYZ01234567j8\n/[*_C\n1\n#@:" (no 4 2) ∷
    parse "At\nB" (ok Field50K none "" ("At" ∷ "B" ∷ []) ":50K:At\nB") ∷
    by "A" "/FW\nUBWCHZ0" (no 9 2) ∷
    without "fB\rCDEFGH" (ok Field50K none "" ("fB\rCDEFGH" ∷ []) ":50K:fB\rCDEFGH") ∷
    by "K" "/$|-A,\nABCDEFGHI\nJK7MNOPQRSTUVWXYZ012345678\n+\n c\"X[9\n|Zb" (no 7 0) ∷
    without "/\u{7f}}x!}?%\r-=\r\n?!8Yy\0\r\n" (no 11 0) ∷
    by "K" "0/Ya\nABCDEFGHIJKL\n2/b__\r\n3/: A,1\r2/8z>b\n/A/$Y0%!\n//!y;1" (no 7 0) ∷
    without "\nX\nb#>!\n\n" (ok Field50K none "" ("" ∷ "X" ∷ "b#>!" ∷ "" ∷ []) ":50K:\nX\nb#>!\n") ∷
    by "K" "/C/ABCDEFGHIJKLMNOPQRSTUWXY/Z012345\r\n?[[ 0=\r\n" (ok Field50K (some "C/ABCDEFGHIJKLMNOPQRSTUWXY/Z012345") "" ("?[[ 0=" ∷ []) ":50K:/C/ABCDEFGHIJKLMNOPQRSTUWXY/Z012345\n?[[ 0=") ∷
    by "Z" "9/C/[/>'!Z\nABCDEF123A/>'!Z" (ok Field50K none "" ("9/C/[/>'!Z" ∷ "ABCDEF123A/>'!Z" ∷ []) ":50K:9/C/[/>'!Z\nABCDEF123A/>'!Z") ∷
    parse "/C/1B[:x\nC];Za" (ok Field50K (some "C/1B[:x") "" ("C];Za" ∷ []) ":50K:/C/1B[:x\nC];Za") ∷
    by "G" "z%!\"<\r\n(.\"Z!\r\n" (ok Field50K none "" ("z%!\"<" ∷ "(.\"Z!" ∷ []) ":50K:z%!\"<\n(.\"Z!") ∷
    by "K" "A\t\n\u{7f}B" (no 3 1) ∷
    by "H" "/A\nABCDEFG-\r\n" (ok Field50K (some "A") "" ("ABCDEFG-" ∷ []) ":50K:/A\nABCDEFG-") ∷
    by "A" "AB\\CxFGH" (no 10 1) ∷
    by "A" "U\nSWCAZ\t\n" (no 9 1) ∷
    by "A" "/C/12345678\nDEUTDEFF00\nNOT REA\0" (no 9 2) ∷
    by "K" "/DE893\t0400440532013000\nJOHN DOE\n123 MAIN STREET\nBERLIN" (no 3 1) ∷
    without "UBSWCHZ0\n" (ok Field50A none "UBSWCHZ0" [] ":50A:UBSWCHZ0") ∷
    by "K" "/A\nAA\nA\nA" (ok Field50K (some "A") "" ("AA" ∷ "A" ∷ "A" ∷ []) ":50K:/A\nAA\nA\nA") ∷
    without "/tRT1\r\nUBSW\u{7f}CHZ0" (no 11 0) ∷
    without "de\t\u{7f}tdeff" (no 11 0) ∷
    by "K" "\nC-{x+\n 9A$&c\n" (ok Field50K none "" ("" ∷ "C-{x+" ∷ " 9A$&c" ∷ []) ":50K:\nC-{x+\n 9A$&c") ∷
    by "K" "JOHN DOE\r\n12/3 MAIN STRE\tT" (no 3 2) ∷
    by "K" "ABCDE^FGHIJKLMNOPQRSTUVWXYZ012345678\nB" (no 4 1) ∷
    by "K" "A\n" (ok Field50K none "" ("A" ∷ []) ":50K:A") ∷
    without "DEUTDEFF500\r\n1/A$@Z\n deutdeff\nDEUTDEFF500\nDEUTDEFF500\r\n/%!\" &?\r\n\r" (no 11 0) ∷
    by "K" "JO~HN DOEJO~HN DOE" (no 3 1) ∷
    by "A" "ABCDEFGH\r AbCdEf12\r\n//)@!>" (no 9 1) ∷
    parse "/A\nABCDEFGHR" (ok Field50K (some "A") "" ("ABCDEFGHR" ∷ []) ":50K:/A\nABCDEFGHR") ∷
    parse "JOHN DOE\r\n123 MAIN STRJOHN DOE\r\n123 MAIN STREET" (ok Field50K none "" ("JOHN DOE" ∷ "123 MAIN STRJOHN DOE" ∷ "123 MAIN STREET" ∷ []) ":50K:JOHN DOE\n123 MAIN STRJOHN DOE\n123 MAIN STREET") ∷
    parse "abcdf92" (ok Field50K none "" ("abcdf92" ∷ []) ":50K:abcdf92") ∷
    by "K" "ABCDEFGHIJKLMNOPQRSTUVWXYZ01234567\n1/#A{8" (ok Field50K none "" ("ABCDEFGHIJKLMNOPQRSTUVWXYZ01234567" ∷ "1/#A{8" ∷ []) ":50K:ABCDEFGHIJKLMNOPQRSTUVWXYZ01234567\n1/#A{8") ∷
    by "K" "JOHNDOE\r\n123 MA MAIN STR-ET" (ok Field50K none "" ("JOHNDOE" ∷ "123 MA MAIN STR-ET" ∷ []) ":50K:JOHNDOE\n123 MA MAIN STR-ET") ∷
    by "G" "/A1/ABCDEFGHIJKLMNOPQRSTUVWXY\tZ012345678\nABCDEFGH" (no 11 0) ∷
    by "G" "ABABCDEG" (ok Field50A none "ABABCDEG" [] ":50A:ABABCDEG") ∷
    by "A" "//RT1\r\nABCDEFGH" (ok Field50A (some "/RT1") "ABCDEFGH" [] ":50A://RT1\nABCDEFGH") ∷
    by "Z" "JOHN DOE\r\n123 MAIN STREET" (ok Field50K none "" ("JOHN DOE" ∷ "123 MAIN STREET" ∷ []) ":50K:JOHN DOE\n123 MAIN STREET") ∷
    by "A" "/(\r\ndeutdeff\r\n" (ok Field50A (some "(") "deutdeff" [] ":50A:/(\ndeutdeff") ∷
    by "K" "0/ABCDEFGHIJKLMNOPQRSTUVWXYZ0123456\r1/1?\r\n/\"/ABCDEFGHIJKLMNOPQRSTUVWXYZ01234567\n//;\n\r//8%\n6/ABCDEFGHIJKLMNOPQRSTUVWXYZ012345" (no 4 1) ∷
    by "K" "/DE89/37040440532013000\nJOHN DOE\n123 MAIN STREET\nAERLIN" (ok Field50K (some "DE89/37040440532013000") "" ("JOHN DOE" ∷ "123 MAIN STREET" ∷ "AERLIN" ∷ []) ":50K:/DE89/37040440532013000\nJOHN DOE\n123 MAIN STREET\nAERLIN") ∷
    by "F" "/A/ABCDEFGHIJKLMNOPQRSTUVWXYZ01234567" (no 11 0) ∷
    by "A" "//#\"Z;a" (no 8 0) ∷
    without "/DE8937040440532013000\nJOHN DOE\n123 MAIN STREET\nBERLIN" (ok Field50K (some "DE8937040440532013000") "" ("JOHN DOE" ∷ "123 MAIN STREET" ∷ "BERLIN" ∷ []) ":50K:/DE8937040440532013000\nJOHN DOE\n123 MAIN STREET\nBERLIN") ∷
    by "C" "\n\n" (ok Field50K none "" ("" ∷ "" ∷ []) ":50K:\n") ∷
    by "H" "ABCDEFGHIJKLMNOPQRSTUVWXYZ012345678\n\nABCDEFG\r\n" (ok Field50K none "" ("ABCDEFGHIJKLMNOPQRSTUVWXYZ012345678" ∷ "" ∷ "ABCDEFG" ∷ []) ":50K:ABCDEFGHIJKLMNOPQRSTUVWXYZ012345678\n\nABCDEFG") ∷
    without "AbCdAEf1/\n" (ok Field50K none "" ("AbCdAEf1/" ∷ []) ":50K:AbCdAEf1/") ∷
    without "c$Y;.=\n>yc?.x\nABCDEFGHIJKLMNOPQRSTUVWXYZ012345678\n" (ok Field50K none "" ("c$Y;.=" ∷ ">yc?.x" ∷ "ABCDEFGHIJKLMNOPQRSTUVWXYZ012345678" ∷ []) ":50K:c$Y;.=\n>yc?.x\nABCDEFGHIJKLMNOPQRSTUVWXYZ012345678") ∷
    by "K" "/C^X+\n?A\nA*#.!" (no 3 1) ∷
    by "K" "/C/Yzza]8\nX)C?\nC\n" (ok Field50K (some "C/Yzza]8") "" ("X)C?" ∷ "C" ∷ []) ":50K:/C/Yzza]8\nX)C?\nC") ∷
    by "Z" "//CH13456\nABCDEF123AZ" (ok Field50A (some "/CH13456") "ABCDEF123AZ" [] ":50A://CH13456\nABCDEF123AZ") ∷
    parse "JOHN DOE\r\n123 MI ST\u{2}EET" (no 11 0) ∷
    without "-C/y,\r\nABCDEFGH" (ok Field50K none "" ("-C/y," ∷ "ABCDEFGH" ∷ []) ":50K:-C/y,\nABCDEFGH") ∷
    parse " /FW\r\n\r\n" (ok Field50K none "" (" /FW" ∷ "" ∷ []) ":50K: /FW\n") ∷
    by "K" "/DE893704/00440532013000\nDEUTDEFF" (ok Field50K (some "DE893704/00440532013000") "" ("DEUTDEFF" ∷ []) ":50K:/DE893704/00440532013000\nDEUTDEFF") ∷
    by "A" "]0\n//ABCDEFGHIJKLMNOPQRSTUVWXYZ012345678\n2/%%/\r\n0/\r\n UBSWCHZ0\rABCDEFGHIJK\r\n6/ABCDEFGHIJKLMNOPQRSTUVWXYZ0123456" (no 9 1) ∷
    by "A" "~BC" (no 9 1) ∷
    without " deutdeff\nABCDEFGHIJKLMNOPQRSTUVWXYZ01234567\n//:Y]C@=" (ok Field50K none "" (" deutdeff" ∷ "ABCDEFGHIJKLMNOPQRSTUVWXYZ01234567" ∷ "//:Y]C@=" ∷ []) ":50K: deutdeff\nABCDEFGHIJKLMNOPQRSTUVWXYZ01234567\n//:Y]C@=") ∷
    by "K" "JOHN DOE\r\0\n123\u{12}MA0N STREET" (no 3 1) ∷
    by "K" "//;,9&/\r//:8\n" (no 7 0) ∷
    parse "#-\r\nAZ{\"#\r\nAaC-x?" (ok Field50K none "" ("#-" ∷ "AZ{\"#" ∷ "AaC-x?" ∷ []) ":50K:#-\nAZ{\"#\nAaC-x?") ∷
    parse "DEUTDEFF500" (ok Field50A none "DEUTDEFF500" [] ":50A:DEUTDEFF500") ∷
    without "/\n" (no 11 0) ∷
    parse "//RT1\nABCDEFGH" (ok Field50A (some "/RT1") "ABCDEFGH" [] ":50A://RT1\nABCDEFGH") ∷
    parse "/AB" (no 11 0) ∷
    parse "/A1/ABCDFGHIJKLMNOPQRSTUVWXYZ01234XYZ0123456\nABCDE\u{f}GH" (no 11 0) ∷
    parse "/DE8937040044L532013000\nJOHN DO\nE\n123 MAIN STREET\nBERIN" (ok Field50K (some "DE8937040044L532013000") "" ("JOHN DO" ∷ "E" ∷ "123 MAIN STREET" ∷ "BERIN" ∷ []) ":50K:/DE8937040044L532013000\nJOHN DO\nE\n123 MAIN STREET\nBERIN") ∷
    by "A" "ABCDEFGHIJKLMNOPQRSTUVWXYZ0123456\r0/](\r/B/\nABCDEFGHIJK" (no 9 1) ∷
    parse "0/b\r1,&\n2/8&\n DEUTDEFF500\r1/b[A:" (ok Field50K none "" ("0/b\r1,&" ∷ "2/8&" ∷ " DEUTDEFF500\r1/b[A:" ∷ []) ":50K:0/b\r1,&\n2/8&\n DEUTDEFF500\r1/b[A:") ∷
    by "K" "\r//y yz\nABCDEFGHI" (ok Field50K none "" ("\r//y yz" ∷ "ABCDEFGHI" ∷ []) ":50K:\r//y yz\nABCDEFGHI") ∷
    without "^A\u{7f}\nB" (no 11 0) ∷
    by "K" "/C/ABCDEFGHIJKLMNOPQRSTUVWXYZ012345\nABCDEFGHIJKLMNOPQRSTUVWXYZ01234567\n,((@\n:,b{\n<|B\n" (ok Field50K (some "C/ABCDEFGHIJKLMNOPQRSTUVWXYZ012345") "" ("ABCDEFGHIJKLMNOPQRSTUVWXYZ01234567" ∷ ",((@" ∷ ":,b{" ∷ "<|B" ∷ []) ":50K:/C/ABCDEFGHIJKLMNOPQRSTUVWXYZ012345\nABCDEFGHIJKLMNOPQRSTUVWXYZ01234567\n,((@\n:,b{\n<|B") ∷
    without "/<b:/|+%\nDEUTDEFF500\r\nABCDEFGHI\r/#=1:z" (ok Field50K (some "<b:/|+%") "" ("DEUTDEFF500" ∷ "ABCDEFGHI\r/#=1:z" ∷ []) ":50K:/<b:/|+%\nDEUTDEFF500\nABCDEFGHI\r/#=1:z") ∷
    parse ",C8]:'\nz\r>?z@\r \nY:|Z\n>>\n" (ok Field50K none "" (",C8]:'" ∷ "z\r>?z@\r " ∷ "Y:|Z" ∷ ">>" ∷ []) ":50K:,C8]:'\nz\r>?z@\r \nY:|Z\n>>") ∷
    by "A" "deutdeff" (ok Field50A none "deutdeff" [] ":50A:deutdeff") ∷
    by "A" "\r/" (no 9 1) ∷
    parse "//}0%C)[\n1/a\n2/ABCDEFGHIJKLMNOPQRSTUVWXYZ012345\n([,\r\n5/%\"*Y%\n6/!<]9\n" (no 11 0) ∷
    by "A" "//CH123456\nUBSWCHZH823456\nUBSWCHZH801A" (no 9 2) ∷
    without "/C/\n+&\n@,'\nABCD\0FGHIJKLMNOPQRSTUVWXYZ012345678\n[a/&<" (no 11 0) ∷
    by "A" "/C[);x:\r\nAbCdE12" (no 9 2) ∷
    by "K" "AB/CDD" (ok Field50K none "" ("AB/CDD" ∷ []) ":50K:AB/CDD") ∷
    by "A" "\r\n\n ;\r\nAbCdEf12\nABCDEFGHI\r" (no 9 1) ∷
    by "K" "//CH123456\n-0?\n\n9a?b\n)Y" (ok Field50K (some "/CH123456") "" ("-0?" ∷ "" ∷ "9a?b" ∷ ")Y" ∷ []) ":50K://CH123456\n-0?\n\n9a?b\n)Y") ∷
    by "K" "ABCDEFGHIJK\r1/:.9:" (ok Field50K none "" ("ABCDEFGHIJK\r1/:.9:" ∷ []) ":50K:ABCDEFGHIJK\r1/:.9:") ∷
    parse "//\"\n1/*<1@8\r\n ABCDEF123AZ\r\n ABCDEF123AZ" (ok Field50K (some "/\"") "" ("1/*<1@8" ∷ " ABCDEF123AZ" ∷ " ABCDEF123AZ" ∷ []) ":50K://\"\n1/*<1@8\n ABCDEF123AZ\n ABCDEF123AZ") ∷
    by "A" "/ABCDEFGHIJKLMNOPQRSTUVWXYZ012345678\rABCDEFGHI\n DEUTDEFF500\r\nABCDEFGHIJKLMNOPQRSTUVWXYZ0123456\nDEUTDEFF500\n\n" (no 2 1) ∷
    by "A" "0/ABCDEFGHIJKLMNOPQRSTUVWXYZ0123456\ndeutdeff\n/<c &\n7/8}\"\r///&\rAbCdEf12\n6/=?@.<[\r\n" (no 9 1) ∷
    parse "/ABCDEFGHIJKLMNOPQRSTUVWXYZ01234567\r\ny]x]a\r\n=\r\nABCDEFGHIJKLMNOPQRSTUVWXYZ01234567" (ok Field50K (some "ABCDEFGHIJKLMNOPQRSTUVWXYZ01234567") "" ("y]x]a" ∷ "=" ∷ "ABCDEFGHIJKLMNOPQRSTUVWXYZ01234567" ∷ []) ":50K:/ABCDEFGHIJKLMNOPQRSTUVWXYZ01234567\ny]x]a\n=\nABCDEFGHIJKLMNOPQRSTUVWXYZ01234567") ∷
    by "A" "/C/a+-?1\r\nABCDEFGH" (ok Field50A (some "C/a+-?1") "ABCDEFGH" [] ":50A:/C/a+-?1\nABCDEFGH") ∷
    by "A" "/C/x%(]|\nUBSWCHZ0" (ok Field50A (some "C/x%(]|") "UBSWCHZ0" [] ":50A:/C/x%(]|\nUBSWCHZ0") ∷
    by "K" "//F" (no 7 0) ∷
    by "G" "8/Y\n1/\n2/ABCDEFGHIJKLMNOPQRSTUVWXYZ0123456" (ok Field50K none "" ("8/Y" ∷ "1/" ∷ "2/ABCDEFGHIJKLMNOPQRSTUVWXYZ0123456" ∷ []) ":50K:8/Y\n1/\n2/ABCDEFGHIJKLMNOPQRSTUVWXYZ0123456") ∷
    by "K" "0/ABCDEFGHIJKLMNOPQRSTUVWXYZ012345\r//\r\n//&>!**" (no 4 1) ∷
    by "K" "/DE8937040044032013000\nDEUTDEFF" (ok Field50K (some "DE8937040044032013000") "" ("DEUTDEFF" ∷ []) ":50K:/DE8937040044032013000\nDEUTDEFF") ∷
    by "F" "/1/ABCDEFGHIJKLMNOPQRSTUVWXYZ012345\nABCDEFGUVWXYZ01234345\nABCDEFGUVWXYZ0123456\nABCDEFGH" (ok Field50K (some "1/ABCDEFGHIJKLMNOPQRSTUVWXYZ012345") "" ("ABCDEFGUVWXYZ01234345" ∷ "ABCDEFGUVWXYZ0123456" ∷ "ABCDEFGH" ∷ []) ":50K:/1/ABCDEFGHIJKLMNOPQRSTUVWXYZ012345\nABCDEFGUVWXYZ01234345\nABCDEFGUVWXYZ0123456\nABCDEFGH") ∷
    by "B" "/>/ByA*$/\r\n" (no 11 0) ∷
    by "B" "/:a<Y_\n_\n>(@|'/\nABCDEFGHIJKLMNOPQRSTUVWXYZ012345678" (ok Field50K (some ":a<Y_") "" ("_" ∷ ">(@|'/" ∷ "ABCDEFGHIJKLMNOPQRSTUVWXYZ012345678" ∷ []) ":50K:/:a<Y_\n_\n>(@|'/\nABCDEFGHIJKLMNOPQRSTUVWXYZ012345678") ∷
    parse "deutdeff\n//ABCDEFGHIJKLMNOPQRSTUVWXYZ012345678" (no 11 0) ∷
    by "K" "/C/>\"X#8(\r\n\r\n&#" (ok Field50K (some "C/>\"X#8(") "" ("" ∷ "&#" ∷ []) ":50K:/C/>\"X#8(\n\n&#") ∷
    by "K" "/ABCDEFGHIJKLMNOPQASTUVWXYZ0123456789\nA" (no 2 1) ∷
    by "Z" "AbCd\u{13}f12" (no 11 0) ∷
    by "A" "\n/A/1z0c(\n//)Y\n{9A0:\nABCDEFGHIJKLMNOPQRSTUVWXYZ012345678" (no 9 1) ∷
    parse "/C/\r\nABCDEFGHIJKLMNOPQRSTUVWXY/Z012345678\r1ABCDEFGHIJKLMNOPQRSTUVWXYZ0123467\r\n.')\r\n" (no 11 0) ∷
    by "Y" "/C/12345678\nDEUTDEFF500\nOT READ" (ok Field50K (some "C/12345678") "" ("DEUTDEFF500" ∷ "OT READ" ∷ []) ":50K:/C/12345678\nDEUTDEFF500\nOT READ") ∷
    []

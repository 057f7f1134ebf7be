-- Made of crates/replay/stdin by tests/rust/listed: the cases of 50A.
use Rattle.std.specs.Prelude.{List, [], ◌∷◌}
use Rattle.std.proofs.Math.Option.{none, some}
use Rattle.party.specs.declared.PartyOption.TheVariants.{Field50A}
use Rattle.swift_mt_message.specs.Cases.{Case, parse, ok, no}

abbrev pub cases : List Case
cases =
    parse "/\nABCDEFGH" (ok Field50A (some "") "ABCDEFGH" [] ":50A:/\nABCDEFGH") ∷
    parse "//\nABCDEFGH" (no 2 1) ∷
    parse "ABCDEFGH\nA" (ok Field50A none "ABCDEFGH" [] ":50A:ABCDEFGH") ∷
    parse "" (no 1 0) ∷
    parse "/ABC/1\nABCDEFGH" (no 2 1) ∷
    parse "/A-/1\nABCDEFGH" (no 2 1) ∷
    parse "/~/1\nABCDEFGH" (no 2 1) ∷
    parse "/~\nABCDEFGH" (no 3 1) ∷
    parse "//~\nABCDEFGH" (no 3 1) ∷
    parse "/1/~\nABCDEFGH" (no 3 1) ∷
    parse "/A" (no 8 0) ∷
    parse "/\r\n" (no 8 0) ∷
    parse "ABCDEFG" (no 9 1) ∷
    parse "ABCDEFGHI" (no 9 1) ∷
    parse "ABCDEFGHIJ" (no 9 1) ∷
    parse "ABCDEFGHIJKL" (no 9 1) ∷
    parse "/C/1\nABCDEFG" (no 9 2) ∷
    parse "/C/1\nABCDEFGHI" (no 9 2) ∷
    parse "/C/1\nABCDEFGHIJ" (no 9 2) ∷
    parse "/C/1\nABCDEFGHIJKL" (no 9 2) ∷
    parse "1BCDEFGH" (no 10 1) ∷
    parse "ABCDE1GH" (no 10 1) ∷
    parse "ABCDEF-H" (no 10 1) ∷
    parse "ABCDEFGHIJ-" (no 10 1) ∷
    parse "/C/1\n1BCDEFGH" (no 10 2) ∷
    parse "/C/1\nABCDE1GH" (no 10 2) ∷
    parse "/C/1\nABCDEF-H" (no 10 2) ∷
    parse "/C/1\nABCDEFGHIJ-" (no 10 2) ∷
    parse "/A\nABCDEFGH" (ok Field50A (some "A") "ABCDEFGH" [] ":50A:/A\nABCDEFGH") ∷
    parse "/ABCDEFGHIJKLMNOPQRSTUVWXYZ0123456\nABCDEFGH" (ok Field50A (some "ABCDEFGHIJKLMNOPQRSTUVWXYZ0123456") "ABCDEFGH" [] ":50A:/ABCDEFGHIJKLMNOPQRSTUVWXYZ0123456\nABCDEFGH") ∷
    parse "/ABCDEFGHIJKLMNOPQRSTUVWXYZ01234567\nABCDEFGH" (ok Field50A (some "ABCDEFGHIJKLMNOPQRSTUVWXYZ01234567") "ABCDEFGH" [] ":50A:/ABCDEFGHIJKLMNOPQRSTUVWXYZ01234567\nABCDEFGH") ∷
    parse "/ABCDEFGHIJKLMNOPQRSTUVWXYZ012345678\nABCDEFGH" (no 2 1) ∷
    parse "/ABCDEFGHIJKLMNOPQRSTUVWXYZ0123456789\nABCDEFGH" (no 2 1) ∷
    parse "//A\nABCDEFGH" (ok Field50A (some "/A") "ABCDEFGH" [] ":50A://A\nABCDEFGH") ∷
    parse "//ABCDEFGHIJKLMNOPQRSTUVWXYZ0123456\nABCDEFGH" (ok Field50A (some "/ABCDEFGHIJKLMNOPQRSTUVWXYZ0123456") "ABCDEFGH" [] ":50A://ABCDEFGHIJKLMNOPQRSTUVWXYZ0123456\nABCDEFGH") ∷
    parse "//ABCDEFGHIJKLMNOPQRSTUVWXYZ01234567\nABCDEFGH" (ok Field50A (some "/ABCDEFGHIJKLMNOPQRSTUVWXYZ01234567") "ABCDEFGH" [] ":50A://ABCDEFGHIJKLMNOPQRSTUVWXYZ01234567\nABCDEFGH") ∷
    parse "//ABCDEFGHIJKLMNOPQRSTUVWXYZ012345678\nABCDEFGH" (no 2 1) ∷
    parse "//ABCDEFGHIJKLMNOPQRSTUVWXYZ0123456789\nABCDEFGH" (no 2 1) ∷
    parse "/A/\nABCDEFGH" (ok Field50A (some "A/") "ABCDEFGH" [] ":50A:/A/\nABCDEFGH") ∷
    parse "/A/A\nABCDEFGH" (ok Field50A (some "A/A") "ABCDEFGH" [] ":50A:/A/A\nABCDEFGH") ∷
    parse "/A/ABCDEFGHIJKLMNOPQRSTUVWXYZ0123456\nABCDEFGH" (ok Field50A (some "A/ABCDEFGHIJKLMNOPQRSTUVWXYZ0123456") "ABCDEFGH" [] ":50A:/A/ABCDEFGHIJKLMNOPQRSTUVWXYZ0123456\nABCDEFGH") ∷
    parse "/A/ABCDEFGHIJKLMNOPQRSTUVWXYZ01234567\nABCDEFGH" (ok Field50A (some "A/ABCDEFGHIJKLMNOPQRSTUVWXYZ01234567") "ABCDEFGH" [] ":50A:/A/ABCDEFGHIJKLMNOPQRSTUVWXYZ01234567\nABCDEFGH") ∷
    parse "/A/ABCDEFGHIJKLMNOPQRSTUVWXYZ012345678\nABCDEFGH" (no 2 1) ∷
    parse "/A/ABCDEFGHIJKLMNOPQRSTUVWXYZ0123456789\nABCDEFGH" (no 2 1) ∷
    parse "/1/\nABCDEFGH" (ok Field50A (some "1/") "ABCDEFGH" [] ":50A:/1/\nABCDEFGH") ∷
    parse "/1/A\nABCDEFGH" (ok Field50A (some "1/A") "ABCDEFGH" [] ":50A:/1/A\nABCDEFGH") ∷
    parse "/1/ABCDEFGHIJKLMNOPQRSTUVWXYZ0123456\nABCDEFGH" (ok Field50A (some "1/ABCDEFGHIJKLMNOPQRSTUVWXYZ0123456") "ABCDEFGH" [] ":50A:/1/ABCDEFGHIJKLMNOPQRSTUVWXYZ0123456\nABCDEFGH") ∷
    parse "/1/ABCDEFGHIJKLMNOPQRSTUVWXYZ01234567\nABCDEFGH" (ok Field50A (some "1/ABCDEFGHIJKLMNOPQRSTUVWXYZ01234567") "ABCDEFGH" [] ":50A:/1/ABCDEFGHIJKLMNOPQRSTUVWXYZ01234567\nABCDEFGH") ∷
    parse "/1/ABCDEFGHIJKLMNOPQRSTUVWXYZ012345678\nABCDEFGH" (no 2 1) ∷
    parse "/1/ABCDEFGHIJKLMNOPQRSTUVWXYZ0123456789\nABCDEFGH" (no 2 1) ∷
    parse "/A1/\nABCDEFGH" (ok Field50A (some "A1/") "ABCDEFGH" [] ":50A:/A1/\nABCDEFGH") ∷
    parse "/A1/A\nABCDEFGH" (ok Field50A (some "A1/A") "ABCDEFGH" [] ":50A:/A1/A\nABCDEFGH") ∷
    parse "/A1/ABCDEFGHIJKLMNOPQRSTUVWXYZ0123456\nABCDEFGH" (ok Field50A (some "A1/ABCDEFGHIJKLMNOPQRSTUVWXYZ0123456") "ABCDEFGH" [] ":50A:/A1/ABCDEFGHIJKLMNOPQRSTUVWXYZ0123456\nABCDEFGH") ∷
    parse "/A1/ABCDEFGHIJKLMNOPQRSTUVWXYZ01234567\nABCDEFGH" (ok Field50A (some "A1/ABCDEFGHIJKLMNOPQRSTUVWXYZ01234567") "ABCDEFGH" [] ":50A:/A1/ABCDEFGHIJKLMNOPQRSTUVWXYZ01234567\nABCDEFGH") ∷
    parse "/A1/ABCDEFGHIJKLMNOPQRSTUVWXYZ012345678\nABCDEFGH" (no 2 1) ∷
    parse "/A1/ABCDEFGHIJKLMNOPQRSTUVWXYZ0123456789\nABCDEFGH" (no 2 1) ∷
    parse "/12/\nABCDEFGH" (ok Field50A (some "12/") "ABCDEFGH" [] ":50A:/12/\nABCDEFGH") ∷
    parse "/12/A\nABCDEFGH" (ok Field50A (some "12/A") "ABCDEFGH" [] ":50A:/12/A\nABCDEFGH") ∷
    parse "/12/ABCDEFGHIJKLMNOPQRSTUVWXYZ0123456\nABCDEFGH" (ok Field50A (some "12/ABCDEFGHIJKLMNOPQRSTUVWXYZ0123456") "ABCDEFGH" [] ":50A:/12/ABCDEFGHIJKLMNOPQRSTUVWXYZ0123456\nABCDEFGH") ∷
    parse "/12/ABCDEFGHIJKLMNOPQRSTUVWXYZ01234567\nABCDEFGH" (ok Field50A (some "12/ABCDEFGHIJKLMNOPQRSTUVWXYZ01234567") "ABCDEFGH" [] ":50A:/12/ABCDEFGHIJKLMNOPQRSTUVWXYZ01234567\nABCDEFGH") ∷
    parse "/12/ABCDEFGHIJKLMNOPQRSTUVWXYZ012345678\nABCDEFGH" (no 2 1) ∷
    parse "/12/ABCDEFGHIJKLMNOPQRSTUVWXYZ0123456789\nABCDEFGH" (no 2 1) ∷
    parse "/A/1\nABCDEFGH" (ok Field50A (some "A/1") "ABCDEFGH" [] ":50A:/A/1\nABCDEFGH") ∷
    parse "/AB/1\nABCDEFGH" (ok Field50A (some "AB/1") "ABCDEFGH" [] ":50A:/AB/1\nABCDEFGH") ∷
    parse "/ABCD/1\nABCDEFGH" (no 2 1) ∷
    parse "A" (no 9 1) ∷
    parse "ABCDEFGH" (ok Field50A none "ABCDEFGH" [] ":50A:ABCDEFGH") ∷
    parse "ABCDEFGHIJK" (ok Field50A none "ABCDEFGHIJK" [] ":50A:ABCDEFGHIJK") ∷
    parse "/A\n" (no 8 0) ∷
    parse "/A\nA" (no 9 2) ∷
    parse "/A\nABCDEFG" (no 9 2) ∷
    parse "/A\nABCDEFGHI" (no 9 2) ∷
    parse "/A\nABCDEFGHIJ" (no 9 2) ∷
    parse "/A\nABCDEFGHIJK" (ok Field50A (some "A") "ABCDEFGHIJK" [] ":50A:/A\nABCDEFGHIJK") ∷
    parse "/A\nABCDEFGHIJKL" (no 9 2) ∷
    parse "/A\nABCDEFGH\n" (ok Field50A (some "A") "ABCDEFGH" [] ":50A:/A\nABCDEFGH") ∷
    parse "/A\nABCDEFGH\r\n" (ok Field50A (some "A") "ABCDEFGH" [] ":50A:/A\nABCDEFGH") ∷
    parse "/A\nABCDEFGH\n\n" (ok Field50A (some "A") "ABCDEFGH" [] ":50A:/A\nABCDEFGH") ∷
    parse "/A\nABCDEFGH\nB" (ok Field50A (some "A") "ABCDEFGH" [] ":50A:/A\nABCDEFGH") ∷
    parse "/A\nABCDEFGH\n~\n~" (ok Field50A (some "A") "ABCDEFGH" [] ":50A:/A\nABCDEFGH") ∷
    parse "\rABCDEFGH" (no 9 1) ∷
    parse "A\rBCDEFGH" (no 9 1) ∷
    parse "AB\rCDEFGH" (no 9 1) ∷
    parse "ABC\rDEFGH" (no 9 1) ∷
    parse "ABCD\rEFGH" (no 9 1) ∷
    parse "ABCDE\rFGH" (no 9 1) ∷
    parse "ABCDEF\rGH" (no 9 1) ∷
    parse "ABCDEFG\rH" (no 9 1) ∷
    parse "ABCDEFGH\r" (no 9 1) ∷
    parse "\nABCDEFGH" (no 9 1) ∷
    parse "A\nBCDEFGH" (no 9 1) ∷
    parse "AB\nCDEFGH" (no 9 1) ∷
    parse "ABC\nDEFGH" (no 9 1) ∷
    parse "ABCD\nEFGH" (no 9 1) ∷
    parse "ABCDE\nFGH" (no 9 1) ∷
    parse "ABCDEF\nGH" (no 9 1) ∷
    parse "ABCDEFG\nH" (no 9 1) ∷
    parse "ABCDEFGH\n" (ok Field50A none "ABCDEFGH" [] ":50A:ABCDEFGH") ∷
    parse "\r\nABCDEFGH" (no 9 1) ∷
    parse "A\r\nBCDEFGH" (no 9 1) ∷
    parse "AB\r\nCDEFGH" (no 9 1) ∷
    parse "ABC\r\nDEFGH" (no 9 1) ∷
    parse "ABCD\r\nEFGH" (no 9 1) ∷
    parse "ABCDE\r\nFGH" (no 9 1) ∷
    parse "ABCDEF\r\nGH" (no 9 1) ∷
    parse "ABCDEFG\r\nH" (no 9 1) ∷
    parse "ABCDEFGH\r\n" (ok Field50A none "ABCDEFGH" [] ":50A:ABCDEFGH") ∷
    parse "\rBCDEFGH" (no 10 1) ∷
    parse "A\rCDEFGH" (no 10 1) ∷
    parse "AB\rDEFGH" (no 10 1) ∷
    parse "ABC\rEFGH" (no 10 1) ∷
    parse "ABCD\rFGH" (no 10 1) ∷
    parse "ABCDE\rGH" (no 10 1) ∷
    parse "ABCDEF\rH" (no 10 1) ∷
    parse "ABCDEFG\r" (no 10 1) ∷
    parse "\nBCDEFGH" (no 9 1) ∷
    parse "A\nCDEFGH" (no 9 1) ∷
    parse "AB\nDEFGH" (no 9 1) ∷
    parse "ABC\nEFGH" (no 9 1) ∷
    parse "ABCD\nFGH" (no 9 1) ∷
    parse "ABCDE\nGH" (no 9 1) ∷
    parse "ABCDEF\nH" (no 9 1) ∷
    parse "ABCDEFG\n" (no 9 1) ∷
    parse "\r/A\nABCDEFGH" (no 9 1) ∷
    parse "/\rA\nABCDEFGH" (ok Field50A (some "\rA") "ABCDEFGH" [] ":50A:/\rA\nABCDEFGH") ∷
    parse "/A\r\nABCDEFGH" (ok Field50A (some "A") "ABCDEFGH" [] ":50A:/A\nABCDEFGH") ∷
    parse "/A\n\rABCDEFGH" (no 9 2) ∷
    parse "/A\nA\rBCDEFGH" (no 9 2) ∷
    parse "/A\nAB\rCDEFGH" (no 9 2) ∷
    parse "/A\nABC\rDEFGH" (no 9 2) ∷
    parse "/A\nABCD\rEFGH" (no 9 2) ∷
    parse "/A\nABCDE\rFGH" (no 9 2) ∷
    parse "/A\nABCDEF\rGH" (no 9 2) ∷
    parse "/A\nABCDEFG\rH" (no 9 2) ∷
    parse "/A\nABCDEFGH\r" (no 9 2) ∷
    parse "\n/A\nABCDEFGH" (no 9 1) ∷
    parse "/\nA\nABCDEFGH" (no 9 2) ∷
    parse "/A\n\nABCDEFGH" (no 9 2) ∷
    parse "/A\nA\nBCDEFGH" (no 9 2) ∷
    parse "/A\nAB\nCDEFGH" (no 9 2) ∷
    parse "/A\nABC\nDEFGH" (no 9 2) ∷
    parse "/A\nABCD\nEFGH" (no 9 2) ∷
    parse "/A\nABCDE\nFGH" (no 9 2) ∷
    parse "/A\nABCDEF\nGH" (no 9 2) ∷
    parse "/A\nABCDEFG\nH" (no 9 2) ∷
    parse "\r\n/A\nABCDEFGH" (no 9 1) ∷
    parse "/\r\nA\nABCDEFGH" (no 9 2) ∷
    parse "/A\r\n\nABCDEFGH" (no 9 2) ∷
    parse "/A\n\r\nABCDEFGH" (no 9 2) ∷
    parse "/A\nA\r\nBCDEFGH" (no 9 2) ∷
    parse "/A\nAB\r\nCDEFGH" (no 9 2) ∷
    parse "/A\nABC\r\nDEFGH" (no 9 2) ∷
    parse "/A\nABCD\r\nEFGH" (no 9 2) ∷
    parse "/A\nABCDE\r\nFGH" (no 9 2) ∷
    parse "/A\nABCDEF\r\nGH" (no 9 2) ∷
    parse "/A\nABCDEFG\r\nH" (no 9 2) ∷
    parse "\rA\nABCDEFGH" (no 9 1) ∷
    parse "/\r\nABCDEFGH" (ok Field50A (some "") "ABCDEFGH" [] ":50A:/\nABCDEFGH") ∷
    parse "/A\rABCDEFGH" (no 8 0) ∷
    parse "/A\n\rBCDEFGH" (no 10 2) ∷
    parse "/A\nA\rCDEFGH" (no 10 2) ∷
    parse "/A\nAB\rDEFGH" (no 10 2) ∷
    parse "/A\nABC\rEFGH" (no 10 2) ∷
    parse "/A\nABCD\rFGH" (no 10 2) ∷
    parse "/A\nABCDE\rGH" (no 10 2) ∷
    parse "/A\nABCDEF\rH" (no 10 2) ∷
    parse "/A\nABCDEFG\r" (no 10 2) ∷
    parse "\nA\nABCDEFGH" (no 9 1) ∷
    parse "/\n\nABCDEFGH" (no 9 2) ∷
    parse "/A\n\nBCDEFGH" (no 9 2) ∷
    parse "/A\nA\nCDEFGH" (no 9 2) ∷
    parse "/A\nAB\nDEFGH" (no 9 2) ∷
    parse "/A\nABC\nEFGH" (no 9 2) ∷
    parse "/A\nABCD\nFGH" (no 9 2) ∷
    parse "/A\nABCDE\nGH" (no 9 2) ∷
    parse "/A\nABCDEF\nH" (no 9 2) ∷
    parse "/A\nABCDEFG\n" (no 9 2) ∷
    parse "/\0/A\nABCDEFGH" (no 2 1) ∷
    parse "/\u{1}/A\nABCDEFGH" (no 2 1) ∷
    parse "/\u{2}/A\nABCDEFGH" (no 2 1) ∷
    parse "/\u{3}/A\nABCDEFGH" (no 2 1) ∷
    parse "/\u{4}/A\nABCDEFGH" (no 2 1) ∷
    parse "/\u{5}/A\nABCDEFGH" (no 2 1) ∷
    parse "/\u{6}/A\nABCDEFGH" (no 2 1) ∷
    parse "/\u{7}/A\nABCDEFGH" (no 2 1) ∷
    parse "/\u{8}/A\nABCDEFGH" (no 2 1) ∷
    parse "/\t/A\nABCDEFGH" (no 2 1) ∷
    parse "/\n/A\nABCDEFGH" (no 9 2) ∷
    parse "/\u{b}/A\nABCDEFGH" (no 2 1) ∷
    parse "/\u{c}/A\nABCDEFGH" (no 2 1) ∷
    parse "/\r/A\nABCDEFGH" (no 2 1) ∷
    parse "/\u{e}/A\nABCDEFGH" (no 2 1) ∷
    parse "/\u{f}/A\nABCDEFGH" (no 2 1) ∷
    parse "/\u{10}/A\nABCDEFGH" (no 2 1) ∷
    parse "/\u{11}/A\nABCDEFGH" (no 2 1) ∷
    parse "/\u{12}/A\nABCDEFGH" (no 2 1) ∷
    parse "/\u{13}/A\nABCDEFGH" (no 2 1) ∷
    parse "/\u{14}/A\nABCDEFGH" (no 2 1) ∷
    parse "/\u{15}/A\nABCDEFGH" (no 2 1) ∷
    parse "/\u{16}/A\nABCDEFGH" (no 2 1) ∷
    parse "/\u{17}/A\nABCDEFGH" (no 2 1) ∷
    parse "/\u{18}/A\nABCDEFGH" (no 2 1) ∷
    parse "/\u{19}/A\nABCDEFGH" (no 2 1) ∷
    parse "/\u{1a}/A\nABCDEFGH" (no 2 1) ∷
    parse "/\u{1b}/A\nABCDEFGH" (no 2 1) ∷
    parse "/\u{1c}/A\nABCDEFGH" (no 2 1) ∷
    parse "/\u{1d}/A\nABCDEFGH" (no 2 1) ∷
    parse "/\u{1e}/A\nABCDEFGH" (no 2 1) ∷
    parse "/\u{1f}/A\nABCDEFGH" (no 2 1) ∷
    parse "/ /A\nABCDEFGH" (no 2 1) ∷
    parse "/!/A\nABCDEFGH" (no 2 1) ∷
    parse "/\"/A\nABCDEFGH" (no 2 1) ∷
    parse "/#/A\nABCDEFGH" (no 2 1) ∷
    parse "/$/A\nABCDEFGH" (no 2 1) ∷
    parse "/%/A\nABCDEFGH" (no 2 1) ∷
    parse "/&/A\nABCDEFGH" (no 2 1) ∷
    parse "/'/A\nABCDEFGH" (no 2 1) ∷
    parse "/(/A\nABCDEFGH" (no 2 1) ∷
    parse "/)/A\nABCDEFGH" (no 2 1) ∷
    parse "/*/A\nABCDEFGH" (no 2 1) ∷
    parse "/+/A\nABCDEFGH" (no 2 1) ∷
    parse "/,/A\nABCDEFGH" (no 2 1) ∷
    parse "/-/A\nABCDEFGH" (no 2 1) ∷
    parse "/./A\nABCDEFGH" (no 2 1) ∷
    parse "///A\nABCDEFGH" (ok Field50A (some "//A") "ABCDEFGH" [] ":50A:///A\nABCDEFGH") ∷
    parse "/0/A\nABCDEFGH" (ok Field50A (some "0/A") "ABCDEFGH" [] ":50A:/0/A\nABCDEFGH") ∷
    parse "/2/A\nABCDEFGH" (ok Field50A (some "2/A") "ABCDEFGH" [] ":50A:/2/A\nABCDEFGH") ∷
    parse "/3/A\nABCDEFGH" (ok Field50A (some "3/A") "ABCDEFGH" [] ":50A:/3/A\nABCDEFGH") ∷
    parse "/4/A\nABCDEFGH" (ok Field50A (some "4/A") "ABCDEFGH" [] ":50A:/4/A\nABCDEFGH") ∷
    parse "/5/A\nABCDEFGH" (ok Field50A (some "5/A") "ABCDEFGH" [] ":50A:/5/A\nABCDEFGH") ∷
    parse "/6/A\nABCDEFGH" (ok Field50A (some "6/A") "ABCDEFGH" [] ":50A:/6/A\nABCDEFGH") ∷
    parse "/7/A\nABCDEFGH" (ok Field50A (some "7/A") "ABCDEFGH" [] ":50A:/7/A\nABCDEFGH") ∷
    parse "/8/A\nABCDEFGH" (ok Field50A (some "8/A") "ABCDEFGH" [] ":50A:/8/A\nABCDEFGH") ∷
    parse "/9/A\nABCDEFGH" (ok Field50A (some "9/A") "ABCDEFGH" [] ":50A:/9/A\nABCDEFGH") ∷
    parse "/:/A\nABCDEFGH" (no 2 1) ∷
    parse "/;/A\nABCDEFGH" (no 2 1) ∷
    parse "/</A\nABCDEFGH" (no 2 1) ∷
    parse "/=/A\nABCDEFGH" (no 2 1) ∷
    parse "/>/A\nABCDEFGH" (no 2 1) ∷
    parse "/?/A\nABCDEFGH" (no 2 1) ∷
    parse "/@/A\nABCDEFGH" (no 2 1) ∷
    parse "/B/A\nABCDEFGH" (ok Field50A (some "B/A") "ABCDEFGH" [] ":50A:/B/A\nABCDEFGH") ∷
    parse "/C/A\nABCDEFGH" (ok Field50A (some "C/A") "ABCDEFGH" [] ":50A:/C/A\nABCDEFGH") ∷
    parse "/D/A\nABCDEFGH" (ok Field50A (some "D/A") "ABCDEFGH" [] ":50A:/D/A\nABCDEFGH") ∷
    parse "/E/A\nABCDEFGH" (ok Field50A (some "E/A") "ABCDEFGH" [] ":50A:/E/A\nABCDEFGH") ∷
    parse "/F/A\nABCDEFGH" (ok Field50A (some "F/A") "ABCDEFGH" [] ":50A:/F/A\nABCDEFGH") ∷
    parse "/G/A\nABCDEFGH" (ok Field50A (some "G/A") "ABCDEFGH" [] ":50A:/G/A\nABCDEFGH") ∷
    parse "/H/A\nABCDEFGH" (ok Field50A (some "H/A") "ABCDEFGH" [] ":50A:/H/A\nABCDEFGH") ∷
    parse "/I/A\nABCDEFGH" (ok Field50A (some "I/A") "ABCDEFGH" [] ":50A:/I/A\nABCDEFGH") ∷
    parse "/J/A\nABCDEFGH" (ok Field50A (some "J/A") "ABCDEFGH" [] ":50A:/J/A\nABCDEFGH") ∷
    parse "/K/A\nABCDEFGH" (ok Field50A (some "K/A") "ABCDEFGH" [] ":50A:/K/A\nABCDEFGH") ∷
    parse "/L/A\nABCDEFGH" (ok Field50A (some "L/A") "ABCDEFGH" [] ":50A:/L/A\nABCDEFGH") ∷
    parse "/M/A\nABCDEFGH" (ok Field50A (some "M/A") "ABCDEFGH" [] ":50A:/M/A\nABCDEFGH") ∷
    parse "/N/A\nABCDEFGH" (ok Field50A (some "N/A") "ABCDEFGH" [] ":50A:/N/A\nABCDEFGH") ∷
    parse "/O/A\nABCDEFGH" (ok Field50A (some "O/A") "ABCDEFGH" [] ":50A:/O/A\nABCDEFGH") ∷
    parse "/P/A\nABCDEFGH" (ok Field50A (some "P/A") "ABCDEFGH" [] ":50A:/P/A\nABCDEFGH") ∷
    parse "/Q/A\nABCDEFGH" (ok Field50A (some "Q/A") "ABCDEFGH" [] ":50A:/Q/A\nABCDEFGH") ∷
    parse "/R/A\nABCDEFGH" (ok Field50A (some "R/A") "ABCDEFGH" [] ":50A:/R/A\nABCDEFGH") ∷
    parse "/S/A\nABCDEFGH" (ok Field50A (some "S/A") "ABCDEFGH" [] ":50A:/S/A\nABCDEFGH") ∷
    parse "/T/A\nABCDEFGH" (ok Field50A (some "T/A") "ABCDEFGH" [] ":50A:/T/A\nABCDEFGH") ∷
    parse "/U/A\nABCDEFGH" (ok Field50A (some "U/A") "ABCDEFGH" [] ":50A:/U/A\nABCDEFGH") ∷
    parse "/V/A\nABCDEFGH" (ok Field50A (some "V/A") "ABCDEFGH" [] ":50A:/V/A\nABCDEFGH") ∷
    parse "/W/A\nABCDEFGH" (ok Field50A (some "W/A") "ABCDEFGH" [] ":50A:/W/A\nABCDEFGH") ∷
    parse "/X/A\nABCDEFGH" (ok Field50A (some "X/A") "ABCDEFGH" [] ":50A:/X/A\nABCDEFGH") ∷
    parse "/Y/A\nABCDEFGH" (ok Field50A (some "Y/A") "ABCDEFGH" [] ":50A:/Y/A\nABCDEFGH") ∷
    parse "/Z/A\nABCDEFGH" (ok Field50A (some "Z/A") "ABCDEFGH" [] ":50A:/Z/A\nABCDEFGH") ∷
    parse "/[/A\nABCDEFGH" (no 2 1) ∷
    parse "/\\/A\nABCDEFGH" (no 2 1) ∷
    parse "/]/A\nABCDEFGH" (no 2 1) ∷
    parse "/^/A\nABCDEFGH" (no 2 1) ∷
    parse "/_/A\nABCDEFGH" (no 2 1) ∷
    parse "/`/A\nABCDEFGH" (no 2 1) ∷
    parse "/a/A\nABCDEFGH" (ok Field50A (some "a/A") "ABCDEFGH" [] ":50A:/a/A\nABCDEFGH") ∷
    parse "/b/A\nABCDEFGH" (ok Field50A (some "b/A") "ABCDEFGH" [] ":50A:/b/A\nABCDEFGH") ∷
    parse "/c/A\nABCDEFGH" (ok Field50A (some "c/A") "ABCDEFGH" [] ":50A:/c/A\nABCDEFGH") ∷
    parse "/d/A\nABCDEFGH" (ok Field50A (some "d/A") "ABCDEFGH" [] ":50A:/d/A\nABCDEFGH") ∷
    parse "/e/A\nABCDEFGH" (ok Field50A (some "e/A") "ABCDEFGH" [] ":50A:/e/A\nABCDEFGH") ∷
    parse "/f/A\nABCDEFGH" (ok Field50A (some "f/A") "ABCDEFGH" [] ":50A:/f/A\nABCDEFGH") ∷
    parse "/g/A\nABCDEFGH" (ok Field50A (some "g/A") "ABCDEFGH" [] ":50A:/g/A\nABCDEFGH") ∷
    parse "/h/A\nABCDEFGH" (ok Field50A (some "h/A") "ABCDEFGH" [] ":50A:/h/A\nABCDEFGH") ∷
    parse "/i/A\nABCDEFGH" (ok Field50A (some "i/A") "ABCDEFGH" [] ":50A:/i/A\nABCDEFGH") ∷
    parse "/j/A\nABCDEFGH" (ok Field50A (some "j/A") "ABCDEFGH" [] ":50A:/j/A\nABCDEFGH") ∷
    parse "/k/A\nABCDEFGH" (ok Field50A (some "k/A") "ABCDEFGH" [] ":50A:/k/A\nABCDEFGH") ∷
    parse "/l/A\nABCDEFGH" (ok Field50A (some "l/A") "ABCDEFGH" [] ":50A:/l/A\nABCDEFGH") ∷
    parse "/m/A\nABCDEFGH" (ok Field50A (some "m/A") "ABCDEFGH" [] ":50A:/m/A\nABCDEFGH") ∷
    parse "/n/A\nABCDEFGH" (ok Field50A (some "n/A") "ABCDEFGH" [] ":50A:/n/A\nABCDEFGH") ∷
    parse "/o/A\nABCDEFGH" (ok Field50A (some "o/A") "ABCDEFGH" [] ":50A:/o/A\nABCDEFGH") ∷
    parse "/p/A\nABCDEFGH" (ok Field50A (some "p/A") "ABCDEFGH" [] ":50A:/p/A\nABCDEFGH") ∷
    parse "/q/A\nABCDEFGH" (ok Field50A (some "q/A") "ABCDEFGH" [] ":50A:/q/A\nABCDEFGH") ∷
    parse "/r/A\nABCDEFGH" (ok Field50A (some "r/A") "ABCDEFGH" [] ":50A:/r/A\nABCDEFGH") ∷
    parse "/s/A\nABCDEFGH" (ok Field50A (some "s/A") "ABCDEFGH" [] ":50A:/s/A\nABCDEFGH") ∷
    parse "/t/A\nABCDEFGH" (ok Field50A (some "t/A") "ABCDEFGH" [] ":50A:/t/A\nABCDEFGH") ∷
    parse "/u/A\nABCDEFGH" (ok Field50A (some "u/A") "ABCDEFGH" [] ":50A:/u/A\nABCDEFGH") ∷
    parse "/v/A\nABCDEFGH" (ok Field50A (some "v/A") "ABCDEFGH" [] ":50A:/v/A\nABCDEFGH") ∷
    parse "/w/A\nABCDEFGH" (ok Field50A (some "w/A") "ABCDEFGH" [] ":50A:/w/A\nABCDEFGH") ∷
    parse "/x/A\nABCDEFGH" (ok Field50A (some "x/A") "ABCDEFGH" [] ":50A:/x/A\nABCDEFGH") ∷
    parse "/y/A\nABCDEFGH" (ok Field50A (some "y/A") "ABCDEFGH" [] ":50A:/y/A\nABCDEFGH") ∷
    parse "/z/A\nABCDEFGH" (ok Field50A (some "z/A") "ABCDEFGH" [] ":50A:/z/A\nABCDEFGH") ∷
    parse "/{/A\nABCDEFGH" (no 2 1) ∷
    parse "/|/A\nABCDEFGH" (no 2 1) ∷
    parse "/}/A\nABCDEFGH" (no 2 1) ∷
    parse "/~/A\nABCDEFGH" (no 2 1) ∷
    parse "/\u{7f}/A\nABCDEFGH" (no 2 1) ∷
    parse "\0A\nABCDEFGH" (no 9 1) ∷
    parse " A\nABCDEFGH" (no 9 1) ∷
    parse "@A\nABCDEFGH" (no 9 1) ∷
    parse "[A\nABCDEFGH" (no 9 1) ∷
    parse "zA\nABCDEFGH" (no 9 1) ∷
    parse "~A\nABCDEFGH" (no 9 1) ∷
    parse "/\t\nABCDEFGH" (no 3 1) ∷
    parse "/!\nABCDEFGH" (ok Field50A (some "!") "ABCDEFGH" [] ":50A:/!\nABCDEFGH") ∷
    parse "/0\nABCDEFGH" (ok Field50A (some "0") "ABCDEFGH" [] ":50A:/0\nABCDEFGH") ∷
    parse "/Z\nABCDEFGH" (ok Field50A (some "Z") "ABCDEFGH" [] ":50A:/Z\nABCDEFGH") ∷
    parse "/a\nABCDEFGH" (ok Field50A (some "a") "ABCDEFGH" [] ":50A:/a\nABCDEFGH") ∷
    parse "/{\nABCDEFGH" (ok Field50A (some "{") "ABCDEFGH" [] ":50A:/{\nABCDEFGH") ∷
    parse "/A\0ABCDEFGH" (no 3 1) ∷
    parse "/A ABCDEFGH" (no 8 0) ∷
    parse "/A/ABCDEFGH" (no 8 0) ∷
    parse "/A@ABCDEFGH" (no 8 0) ∷
    parse "/A[ABCDEFGH" (no 8 0) ∷
    parse "/AzABCDEFGH" (no 8 0) ∷
    parse "/A~ABCDEFGH" (no 3 1) ∷
    parse "/A\n\tBCDEFGH" (no 10 2) ∷
    parse "/A\n!BCDEFGH" (no 10 2) ∷
    parse "/A\n0BCDEFGH" (no 10 2) ∷
    parse "/A\nZBCDEFGH" (ok Field50A (some "A") "ZBCDEFGH" [] ":50A:/A\nZBCDEFGH") ∷
    parse "/A\naBCDEFGH" (ok Field50A (some "A") "aBCDEFGH" [] ":50A:/A\naBCDEFGH") ∷
    parse "/A\n{BCDEFGH" (no 10 2) ∷
    parse "/A\nA\0CDEFGH" (no 10 2) ∷
    parse "/A\nA CDEFGH" (no 10 2) ∷
    parse "/A\nA/CDEFGH" (no 10 2) ∷
    parse "/A\nA@CDEFGH" (no 10 2) ∷
    parse "/A\nA[CDEFGH" (no 10 2) ∷
    parse "/A\nAzCDEFGH" (ok Field50A (some "A") "AzCDEFGH" [] ":50A:/A\nAzCDEFGH") ∷
    parse "/A\nA~CDEFGH" (no 10 2) ∷
    parse "/A\nAB\tDEFGH" (no 10 2) ∷
    parse "/A\nAB!DEFGH" (no 10 2) ∷
    parse "/A\nAB0DEFGH" (no 10 2) ∷
    parse "/A\nABZDEFGH" (ok Field50A (some "A") "ABZDEFGH" [] ":50A:/A\nABZDEFGH") ∷
    parse "/A\nABaDEFGH" (ok Field50A (some "A") "ABaDEFGH" [] ":50A:/A\nABaDEFGH") ∷
    parse "/A\nAB{DEFGH" (no 10 2) ∷
    parse "/A\nABC\0EFGH" (no 10 2) ∷
    parse "/A\nABC EFGH" (no 10 2) ∷
    parse "/A\nABC/EFGH" (no 10 2) ∷
    parse "/A\nABC@EFGH" (no 10 2) ∷
    parse "/A\nABC[EFGH" (no 10 2) ∷
    parse "/A\nABCzEFGH" (ok Field50A (some "A") "ABCzEFGH" [] ":50A:/A\nABCzEFGH") ∷
    parse "/A\nABC~EFGH" (no 10 2) ∷
    parse "/A\nABCD\tFGH" (no 10 2) ∷
    parse "/A\nABCD!FGH" (no 10 2) ∷
    parse "/A\nABCD0FGH" (no 10 2) ∷
    parse "/A\nABCDZFGH" (ok Field50A (some "A") "ABCDZFGH" [] ":50A:/A\nABCDZFGH") ∷
    parse "/A\nABCDaFGH" (ok Field50A (some "A") "ABCDaFGH" [] ":50A:/A\nABCDaFGH") ∷
    parse "/A\nABCD{FGH" (no 10 2) ∷
    parse "/A\nABCDE\0GH" (no 10 2) ∷
    parse "/A\nABCDE GH" (no 10 2) ∷
    parse "/A\nABCDE/GH" (no 10 2) ∷
    parse "/A\nABCDE@GH" (no 10 2) ∷
    parse "/A\nABCDE[GH" (no 10 2) ∷
    parse "/A\nABCDEzGH" (ok Field50A (some "A") "ABCDEzGH" [] ":50A:/A\nABCDEzGH") ∷
    parse "/A\nABCDE~GH" (no 10 2) ∷
    parse "/A\nABCDEF\tH" (no 10 2) ∷
    parse "/A\nABCDEF!H" (no 10 2) ∷
    parse "/A\nABCDEF0H" (ok Field50A (some "A") "ABCDEF0H" [] ":50A:/A\nABCDEF0H") ∷
    parse "/A\nABCDEFZH" (ok Field50A (some "A") "ABCDEFZH" [] ":50A:/A\nABCDEFZH") ∷
    parse "/A\nABCDEFaH" (ok Field50A (some "A") "ABCDEFaH" [] ":50A:/A\nABCDEFaH") ∷
    parse "/A\nABCDEF{H" (no 10 2) ∷
    parse "/A\nABCDEFG\0" (no 10 2) ∷
    parse "/A\nABCDEFG " (no 10 2) ∷
    parse "/A\nABCDEFG/" (no 10 2) ∷
    parse "/A\nABCDEFG@" (no 10 2) ∷
    parse "/A\nABCDEFG[" (no 10 2) ∷
    parse "/A\nABCDEFGz" (ok Field50A (some "A") "ABCDEFGz" [] ":50A:/A\nABCDEFGz") ∷
    parse "/A\nABCDEFG~" (no 10 2) ∷
    parse "ABCDEFGH\nABCDEFGHIJKLMNOPQRSTUVWXYZ0123456789ABCDEFGHIJKLMNOPQRSTUVWXYZ0123456789ABCDEFGHIJKLMNOPQRSTUVWXYZ0123456789ABCDEFGHIJKLMNOPQRSTUVWXYZ0123456789ABCDEFGHIJKLMNOPQRSTUVWXYZ0123456789ABCDEFGHIJKLMNOPQRSTUVWXYZ0123456789ABCDEFGHIJKLMNOPQRSTUVWXYZ0123456789ABCDEFGHIJKLMNOPQRSTUVWXYZ0123456789ABCDEFGHIJKLMNOPQRSTUVWXYZ0123456789ABCDEFGHIJKLMNOPQRSTUVWXYZ0123456789ABCDEFGHIJKLMNOPQRSTUVWXYZ0123456789ABCDEFGHIJKLMNOPQRSTUVWXYZ0123456789ABCDEFGHIJKLMNOPQRSTUVWXYZ0123456789ABCDEFGHIJKLMNOPQRSTUVWXYZ0123456789ABCDEFGHIJKLMNOPQRSTUVWXYZ0123456789ABCDEFGHIJKLMNOPQRSTUVWXYZ0123456789ABCDEFGHIJKLMNOPQRSTUVWXYZ0123456789ABCDEFGHIJKLMNOPQRSTUVWXYZ0123456789ABCDEFGHIJKLMNOPQRSTUVWXYZ0123456789ABCDEFGHIJKLMNOPQRSTUVWXYZ0123456789ABCDEFGHIJKLMNOPQRSTUVWXYZ0123456789ABCDEFGHIJKLMNOPQRSTUVWXYZ0123456789ABCDEFGHIJKLMNOPQRSTUVWXYZ0123456789ABCDEFGHIJKLMNOPQRSTUVWXYZ0123456789ABCDEFGHIJKLMNOPQRSTUVWXYZ0123456789ABCDEFGHIJKLMNOPQRSTUVWXYZ0123456789ABCDEFGHIJKLMNOPQRSTUVWXYZ0123456789ABCDEFGHIJKLMNOPQRSTUVWXYZ0123456789ABCDEFGHIJKLMNOPQRSTUVWXYZ0123456789ABCDEFGHIJKLMNOPQRSTUVWXYZ0123456789ABCDEFGHIJKLMNOPQRSTUVWXYZ0123456789ABCDEFGHIJKLMNOPQRSTUVWXYZ0123456789ABCDEFGHIJKLMNOPQRSTUVWXYZ0123456789ABCDEFGHIJKLMNOPQRSTUVWXYZ0123456789ABCDEFGHIJKLMNOPQRSTUVWXYZ0123456789ABCDEFGHIJKLMNOPQRSTUVWXYZ0123456789ABCDEFGHIJKLMNOPQRSTUVWXYZ0123456789ABCDEFGHIJKLMNOPQRSTUVWXYZ0123456789ABCDEFGHIJKLMNOPQRSTUVWXYZ0123456789ABCDEFGHIJKLMNOPQRSTUVWXYZ0123456789ABCDEFGHIJKLMNOPQRSTUVWXYZ0123456789ABCDEFGHIJKLMNOPQRSTUVWXYZ0123456789ABCDEFGHIJKLMNOPQRSTUVWXYZ0123456789ABCDEFGHIJKLMNOPQRSTUVWXYZ0123456789ABCDEFGHIJKLMNOPQRSTUVWXYZ0123456789ABCDEFGHIJKLMNOPQRSTUVWXYZ0123456789ABCDEFGHIJKLMNOPQRSTUVWXYZ0123456789ABCDEFGHIJKLMNOPQRSTUVWXYZ0123456789ABCDEFGHIJKLMNOPQRSTUVWXYZ0123456789ABCDEFGHIJKLMNOPQRSTUVWXYZ0123456789ABCDEFGHIJKLMNOPQRSTUVWXYZ0123456789ABCDEFGHIJKLMNOPQRSTUVWXYZ0123456789ABCDEFGHIJKLMNOPQRSTUVWXYZ0123456789ABCDEFGHIJKLMNOPQRSTUVWXYZ0123456789ABCDEFGHIJKLMNOPQRSTUVWXYZ0123456789ABCDEFGHIJKLMNOPQRSTUVWXYZ0123456789ABCDEFGHIJKLMNOPQRSTUV" (ok Field50A none "ABCDEFGH" [] ":50A:ABCDEFGH") ∷
    parse "ABCDEFGH\nABCDEFGHIJKLMNOPQRSTUVWXYZ0123456789ABCDEFGHIJKLMNOPQRSTUVWXYZ0123456789ABCDEFGHIJKLMNOPQRSTUVWXYZ0123456789ABCDEFGHIJKLMNOPQRSTUVWXYZ0123456789ABCDEFGHIJKLMNOPQRSTUVWXYZ0123456789ABCDEFGHIJKLMNOPQRSTUVWXYZ0123456789ABCDEFGHIJKLMNOPQRSTUVWXYZ0123456789ABCDEFGHIJKLMNOPQRSTUVWXYZ0123456789ABCDEFGHIJKLMNOPQRSTUVWXYZ0123456789ABCDEFGHIJKLMNOPQRSTUVWXYZ0123456789ABCDEFGHIJKLMNOPQRSTUVWXYZ0123456789ABCDEFGHIJKLMNOPQRSTUVWXYZ0123456789ABCDEFGHIJKLMNOPQRSTUVWXYZ0123456789ABCDEFGHIJKLMNOPQRSTUVWXYZ0123456789ABCDEFGHIJKLMNOPQRSTUVWXYZ0123456789ABCDEFGHIJKLMNOPQRSTUVWXYZ0123456789ABCDEFGHIJKLMNOPQRSTUVWXYZ0123456789ABCDEFGHIJKLMNOPQRSTUVWXYZ0123456789ABCDEFGHIJKLMNOPQRSTUVWXYZ0123456789ABCDEFGHIJKLMNOPQRSTUVWXYZ0123456789ABCDEFGHIJKLMNOPQRSTUVWXYZ0123456789ABCDEFGHIJKLMNOPQRSTUVWXYZ0123456789ABCDEFGHIJKLMNOPQRSTUVWXYZ0123456789ABCDEFGHIJKLMNOPQRSTUVWXYZ0123456789ABCDEFGHIJKLMNOPQRSTUVWXYZ0123456789ABCDEFGHIJKLMNOPQRSTUVWXYZ0123456789ABCDEFGHIJKLMNOPQRSTUVWXYZ0123456789ABCDEFGHIJKLMNOPQRSTUVWXYZ0123456789ABCDEFGHIJKLMNOPQRSTUVWXYZ0123456789ABCDEFGHIJKLMNOPQRSTUVWXYZ0123456789ABCDEFGHIJKLMNOPQRSTUVWXYZ0123456789ABCDEFGHIJKLMNOPQRSTUVWXYZ0123456789ABCDEFGHIJKLMNOPQRSTUVWXYZ0123456789ABCDEFGHIJKLMNOPQRSTUVWXYZ0123456789ABCDEFGHIJKLMNOPQRSTUVWXYZ0123456789ABCDEFGHIJKLMNOPQRSTUVWXYZ0123456789ABCDEFGHIJKLMNOPQRSTUVWXYZ0123456789ABCDEFGHIJKLMNOPQRSTUVWXYZ0123456789ABCDEFGHIJKLMNOPQRSTUVWXYZ0123456789ABCDEFGHIJKLMNOPQRSTUVWXYZ0123456789ABCDEFGHIJKLMNOPQRSTUVWXYZ0123456789ABCDEFGHIJKLMNOPQRSTUVWXYZ0123456789ABCDEFGHIJKLMNOPQRSTUVWXYZ0123456789ABCDEFGHIJKLMNOPQRSTUVWXYZ0123456789ABCDEFGHIJKLMNOPQRSTUVWXYZ0123456789ABCDEFGHIJKLMNOPQRSTUVWXYZ0123456789ABCDEFGHIJKLMNOPQRSTUVWXYZ0123456789ABCDEFGHIJKLMNOPQRSTUVWXYZ0123456789ABCDEFGHIJKLMNOPQRSTUVWXYZ0123456789ABCDEFGHIJKLMNOPQRSTUVWXYZ0123456789ABCDEFGHIJKLMNOPQRSTUVWXYZ0123456789ABCDEFGHIJKLMNOPQRSTUVWXYZ0123456789ABCDEFGHIJKLMNOPQRSTUVWXYZ0123456789ABCDEFGHIJKLMNOPQRSTUVWXYZ0123456789ABCDEFGHIJKLMNOPQRSTUVWXYZ0123456789ABCDEFGHIJKLMNOPQRSTUVWXYZ0123456789ABCDEFGHIJKLMNOPQRSTUVW" (ok Field50A none "ABCDEFGH" [] ":50A:ABCDEFGH") ∷
    parse "ABCDBFGHI" (no 9 1) ∷
    parse "/&[1\r\nA\\BCDEF123AZ" (no 9 2) ∷
    parse "/C/12z345678\nDEUTDEFF500\nNOT READ" (ok Field50A (some "C/12z345678") "DEUTDEFF500" [] ":50A:/C/12z345678\nDEUTDEFF500") ∷
    parse "/DE893" (no 8 0) ∷
    parse "ABCDEFGHIJKLMNOPQRSTUVWXYZ012345678\r" (no 9 1) ∷
    parse " UBSWCHZ0\rxZC\n" (no 9 1) ∷
    parse "/|#.\nDEUTDEFF5F500" (no 9 2) ∷
    parse "/ABC/1\nABCDEF-H" (no 2 1) ∷
    parse "\n" (no 9 1) ∷
    parse "/DE89370\t400440532013000\nDEUTDEF" (no 3 1) ∷
    parse "/\n AbCdEf12\n2/=bXBc+\n/B/\n DEUTDEFF500\nABCDEFGHIJKLMNOPQRSTUVWXYZ0123456" (no 9 2) ∷
    parse "ABCDEFGH\n9/cZy\r\n/Y" (ok Field50A none "ABCDEFGH" [] ":50A:ABCDEFGH") ∷
    parse "/ABCDEFGHIJKLMNOPQRSTUVWXYZ0123456\nABCDEF123ADEFGHIJKLMNOPQRSTUVWXYZ0123456\nABCDEF123A" (no 9 2) ∷
    parse "/ABCDEFGHIJKLMNOPQ STUVWXYZ012345679\nABCDEFGEFGH" (no 2 1) ∷
    parse "/DE897040044053201300\u{7f}\nDEUTDEFF" (no 3 1) ∷
    []

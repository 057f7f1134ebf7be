-- Made of crates/replay/stdin by tests/rust/listed: the cases of 50G.
use Rattle.std.specs.Prelude.{List, [], ◌∷◌}
use Rattle.std.proofs.Math.Option.{some}
use Rattle.party.specs.declared.PartyOption.TheVariants.{Field50G}
use Rattle.swift_mt_message.specs.Cases.{Case, parse, ok, no}

abbrev pub cases : List Case
cases =
    parse "/~\nABCDEFGH" (no 3 1) ∷
    parse "" (no 1 0) ∷
    parse "/A" (no 1 0) ∷
    parse "/A\nABCDEFGH\n\n" (no 1 0) ∷
    parse "~" (no 1 0) ∷
    parse "A\nABCDEFGH" (no 2 1) ∷
    parse "/\nABCDEFGH" (no 2 1) ∷
    parse "\nABCDEFGH" (no 2 1) ∷
    parse "~\nABCDEFGH" (no 2 1) ∷
    parse "/A~\nABCDEFGH" (no 3 1) ∷
    parse "/1\nABCDEFG" (no 9 2) ∷
    parse "/1\nABCDEFGHI" (no 9 2) ∷
    parse "/1\nABCDEFGHIJ" (no 9 2) ∷
    parse "/1\nABCDEFGHIJKL" (no 9 2) ∷
    parse "/1\n1BCDEFGH" (no 10 2) ∷
    parse "/1\nABCDE1GH" (no 10 2) ∷
    parse "/1\nABCDEF-H" (no 10 2) ∷
    parse "/1\nABCDEFGHIJ-" (no 10 2) ∷
    parse "/A\nABCDEFGH" (ok Field50G (some "A") "ABCDEFGH" [] ":50G:/A\nABCDEFGH") ∷
    parse "/ABCDEFGHIJKLMNOPQRSTUVWXYZ0123456\nABCDEFGH" (ok Field50G (some "ABCDEFGHIJKLMNOPQRSTUVWXYZ0123456") "ABCDEFGH" [] ":50G:/ABCDEFGHIJKLMNOPQRSTUVWXYZ0123456\nABCDEFGH") ∷
    parse "/ABCDEFGHIJKLMNOPQRSTUVWXYZ01234567\nABCDEFGH" (ok Field50G (some "ABCDEFGHIJKLMNOPQRSTUVWXYZ01234567") "ABCDEFGH" [] ":50G:/ABCDEFGHIJKLMNOPQRSTUVWXYZ01234567\nABCDEFGH") ∷
    parse "/ABCDEFGHIJKLMNOPQRSTUVWXYZ012345678\nABCDEFGH" (no 2 1) ∷
    parse "/ABCDEFGHIJKLMNOPQRSTUVWXYZ0123456789\nABCDEFGH" (no 2 1) ∷
    parse "/" (no 1 0) ∷
    parse "/ABCDEFGHIJKLMNOPQRSTUVWXYZ0123456" (no 1 0) ∷
    parse "/ABCDEFGHIJKLMNOPQRSTUVWXYZ01234567" (no 1 0) ∷
    parse "/ABCDEFGHIJKLMNOPQRSTUVWXYZ012345678" (no 1 0) ∷
    parse "/ABCDEFGHIJKLMNOPQRSTUVWXYZ0123456789" (no 1 0) ∷
    parse "/A\n" (no 1 0) ∷
    parse "/A\nA" (no 9 2) ∷
    parse "/A\nABCDEFG" (no 9 2) ∷
    parse "/A\nABCDEFGHI" (no 9 2) ∷
    parse "/A\nABCDEFGHIJ" (no 9 2) ∷
    parse "/A\nABCDEFGHIJK" (ok Field50G (some "A") "ABCDEFGHIJK" [] ":50G:/A\nABCDEFGHIJK") ∷
    parse "/A\nABCDEFGHIJKL" (no 9 2) ∷
    parse "/A\nABCDEFGH\n" (ok Field50G (some "A") "ABCDEFGH" [] ":50G:/A\nABCDEFGH") ∷
    parse "/A\nABCDEFGH\r\n" (ok Field50G (some "A") "ABCDEFGH" [] ":50G:/A\nABCDEFGH") ∷
    parse "/A\nABCDEFGH\nB" (no 1 0) ∷
    parse "/A\nABCDEFGH\n~\n~" (no 1 0) ∷
    parse "\r/1\nABCDEFGH" (no 2 1) ∷
    parse "/\r1\nABCDEFGH" (ok Field50G (some "\r1") "ABCDEFGH" [] ":50G:/\r1\nABCDEFGH") ∷
    parse "/1\r\nABCDEFGH" (ok Field50G (some "1") "ABCDEFGH" [] ":50G:/1\nABCDEFGH") ∷
    parse "/1\n\rABCDEFGH" (no 9 2) ∷
    parse "/1\nA\rBCDEFGH" (no 9 2) ∷
    parse "/1\nAB\rCDEFGH" (no 9 2) ∷
    parse "/1\nABC\rDEFGH" (no 9 2) ∷
    parse "/1\nABCD\rEFGH" (no 9 2) ∷
    parse "/1\nABCDE\rFGH" (no 9 2) ∷
    parse "/1\nABCDEF\rGH" (no 9 2) ∷
    parse "/1\nABCDEFG\rH" (no 9 2) ∷
    parse "/1\nABCDEFGH\r" (no 9 2) ∷
    parse "\n/1\nABCDEFGH" (no 1 0) ∷
    parse "/\n1\nABCDEFGH" (no 1 0) ∷
    parse "/1\n\nABCDEFGH" (no 1 0) ∷
    parse "/1\nA\nBCDEFGH" (no 1 0) ∷
    parse "/1\nAB\nCDEFGH" (no 1 0) ∷
    parse "/1\nABC\nDEFGH" (no 1 0) ∷
    parse "/1\nABCD\nEFGH" (no 1 0) ∷
    parse "/1\nABCDE\nFGH" (no 1 0) ∷
    parse "/1\nABCDEF\nGH" (no 1 0) ∷
    parse "/1\nABCDEFG\nH" (no 1 0) ∷
    parse "/1\nABCDEFGH\n" (ok Field50G (some "1") "ABCDEFGH" [] ":50G:/1\nABCDEFGH") ∷
    parse "\r\n/1\nABCDEFGH" (no 1 0) ∷
    parse "/\r\n1\nABCDEFGH" (no 1 0) ∷
    parse "/1\r\n\nABCDEFGH" (no 1 0) ∷
    parse "/1\n\r\nABCDEFGH" (no 1 0) ∷
    parse "/1\nA\r\nBCDEFGH" (no 1 0) ∷
    parse "/1\nAB\r\nCDEFGH" (no 1 0) ∷
    parse "/1\nABC\r\nDEFGH" (no 1 0) ∷
    parse "/1\nABCD\r\nEFGH" (no 1 0) ∷
    parse "/1\nABCDE\r\nFGH" (no 1 0) ∷
    parse "/1\nABCDEF\r\nGH" (no 1 0) ∷
    parse "/1\nABCDEFG\r\nH" (no 1 0) ∷
    parse "/1\nABCDEFGH\r\n" (ok Field50G (some "1") "ABCDEFGH" [] ":50G:/1\nABCDEFGH") ∷
    parse "\r1\nABCDEFGH" (no 2 1) ∷
    parse "/\r\nABCDEFGH" (no 2 1) ∷
    parse "/1\rABCDEFGH" (no 1 0) ∷
    parse "/1\n\rBCDEFGH" (no 10 2) ∷
    parse "/1\nA\rCDEFGH" (no 10 2) ∷
    parse "/1\nAB\rDEFGH" (no 10 2) ∷
    parse "/1\nABC\rEFGH" (no 10 2) ∷
    parse "/1\nABCD\rFGH" (no 10 2) ∷
    parse "/1\nABCDE\rGH" (no 10 2) ∷
    parse "/1\nABCDEF\rH" (no 10 2) ∷
    parse "/1\nABCDEFG\r" (no 10 2) ∷
    parse "\n1\nABCDEFGH" (no 1 0) ∷
    parse "/\n\nABCDEFGH" (no 1 0) ∷
    parse "/1\nABCDEFGH" (ok Field50G (some "1") "ABCDEFGH" [] ":50G:/1\nABCDEFGH") ∷
    parse "/1\n\nBCDEFGH" (no 1 0) ∷
    parse "/1\nA\nCDEFGH" (no 1 0) ∷
    parse "/1\nAB\nDEFGH" (no 1 0) ∷
    parse "/1\nABC\nEFGH" (no 1 0) ∷
    parse "/1\nABCD\nFGH" (no 1 0) ∷
    parse "/1\nABCDE\nGH" (no 1 0) ∷
    parse "/1\nABCDEF\nH" (no 1 0) ∷
    parse "/1\nABCDEFG\n" (no 9 2) ∷
    parse "\01\nABCDEFGH" (no 2 1) ∷
    parse " 1\nABCDEFGH" (no 2 1) ∷
    parse "@1\nABCDEFGH" (no 2 1) ∷
    parse "[1\nABCDEFGH" (no 2 1) ∷
    parse "z1\nABCDEFGH" (no 2 1) ∷
    parse "~1\nABCDEFGH" (no 2 1) ∷
    parse "/\t\nABCDEFGH" (no 3 1) ∷
    parse "/!\nABCDEFGH" (ok Field50G (some "!") "ABCDEFGH" [] ":50G:/!\nABCDEFGH") ∷
    parse "/0\nABCDEFGH" (ok Field50G (some "0") "ABCDEFGH" [] ":50G:/0\nABCDEFGH") ∷
    parse "/Z\nABCDEFGH" (ok Field50G (some "Z") "ABCDEFGH" [] ":50G:/Z\nABCDEFGH") ∷
    parse "/a\nABCDEFGH" (ok Field50G (some "a") "ABCDEFGH" [] ":50G:/a\nABCDEFGH") ∷
    parse "/{\nABCDEFGH" (ok Field50G (some "{") "ABCDEFGH" [] ":50G:/{\nABCDEFGH") ∷
    parse "/1\0ABCDEFGH" (no 1 0) ∷
    parse "/1 ABCDEFGH" (no 1 0) ∷
    parse "/1/ABCDEFGH" (no 1 0) ∷
    parse "/1@ABCDEFGH" (no 1 0) ∷
    parse "/1[ABCDEFGH" (no 1 0) ∷
    parse "/1zABCDEFGH" (no 1 0) ∷
    parse "/1~ABCDEFGH" (no 1 0) ∷
    parse "/1\n\tBCDEFGH" (no 10 2) ∷
    parse "/1\n!BCDEFGH" (no 10 2) ∷
    parse "/1\n0BCDEFGH" (no 10 2) ∷
    parse "/1\nZBCDEFGH" (ok Field50G (some "1") "ZBCDEFGH" [] ":50G:/1\nZBCDEFGH") ∷
    parse "/1\naBCDEFGH" (ok Field50G (some "1") "aBCDEFGH" [] ":50G:/1\naBCDEFGH") ∷
    parse "/1\n{BCDEFGH" (no 10 2) ∷
    parse "/1\nA\0CDEFGH" (no 10 2) ∷
    parse "/1\nA CDEFGH" (no 10 2) ∷
    parse "/1\nA/CDEFGH" (no 10 2) ∷
    parse "/1\nA@CDEFGH" (no 10 2) ∷
    parse "/1\nA[CDEFGH" (no 10 2) ∷
    parse "/1\nAzCDEFGH" (ok Field50G (some "1") "AzCDEFGH" [] ":50G:/1\nAzCDEFGH") ∷
    parse "/1\nA~CDEFGH" (no 10 2) ∷
    parse "/1\nAB\tDEFGH" (no 10 2) ∷
    parse "/1\nAB!DEFGH" (no 10 2) ∷
    parse "/1\nAB0DEFGH" (no 10 2) ∷
    parse "/1\nABZDEFGH" (ok Field50G (some "1") "ABZDEFGH" [] ":50G:/1\nABZDEFGH") ∷
    parse "/1\nABaDEFGH" (ok Field50G (some "1") "ABaDEFGH" [] ":50G:/1\nABaDEFGH") ∷
    parse "/1\nAB{DEFGH" (no 10 2) ∷
    parse "/1\nABC\0EFGH" (no 10 2) ∷
    parse "/1\nABC EFGH" (no 10 2) ∷
    parse "/1\nABC/EFGH" (no 10 2) ∷
    parse "/1\nABC@EFGH" (no 10 2) ∷
    parse "/1\nABC[EFGH" (no 10 2) ∷
    parse "/1\nABCzEFGH" (ok Field50G (some "1") "ABCzEFGH" [] ":50G:/1\nABCzEFGH") ∷
    parse "/1\nABC~EFGH" (no 10 2) ∷
    parse "/1\nABCD\tFGH" (no 10 2) ∷
    parse "/1\nABCD!FGH" (no 10 2) ∷
    parse "/1\nABCD0FGH" (no 10 2) ∷
    parse "/1\nABCDZFGH" (ok Field50G (some "1") "ABCDZFGH" [] ":50G:/1\nABCDZFGH") ∷
    parse "/1\nABCDaFGH" (ok Field50G (some "1") "ABCDaFGH" [] ":50G:/1\nABCDaFGH") ∷
    parse "/1\nABCD{FGH" (no 10 2) ∷
    parse "/1\nABCDE\0GH" (no 10 2) ∷
    parse "/1\nABCDE GH" (no 10 2) ∷
    parse "/1\nABCDE/GH" (no 10 2) ∷
    parse "/1\nABCDE@GH" (no 10 2) ∷
    parse "/1\nABCDE[GH" (no 10 2) ∷
    parse "/1\nABCDEzGH" (ok Field50G (some "1") "ABCDEzGH" [] ":50G:/1\nABCDEzGH") ∷
    parse "/1\nABCDE~GH" (no 10 2) ∷
    parse "/1\nABCDEF\tH" (no 10 2) ∷
    parse "/1\nABCDEF!H" (no 10 2) ∷
    parse "/1\nABCDEF0H" (ok Field50G (some "1") "ABCDEF0H" [] ":50G:/1\nABCDEF0H") ∷
    parse "/1\nABCDEFZH" (ok Field50G (some "1") "ABCDEFZH" [] ":50G:/1\nABCDEFZH") ∷
    parse "/1\nABCDEFaH" (ok Field50G (some "1") "ABCDEFaH" [] ":50G:/1\nABCDEFaH") ∷
    parse "/1\nABCDEF{H" (no 10 2) ∷
    parse "/1\nABCDEFG\0" (no 10 2) ∷
    parse "/1\nABCDEFG " (no 10 2) ∷
    parse "/1\nABCDEFG/" (no 10 2) ∷
    parse "/1\nABCDEFG@" (no 10 2) ∷
    parse "/1\nABCDEFG[" (no 10 2) ∷
    parse "/1\nABCDEFGz" (ok Field50G (some "1") "ABCDEFGz" [] ":50G:/1\nABCDEFGz") ∷
    parse "/1\nABCDEFG~" (no 10 2) ∷
    parse "/ABCDEFGHIJKLMNOPQRSTUVWXYZ0123456\nABCDSEFGH" (no 9 2) ∷
    parse "/1\nAz>DEFGH" (no 10 2) ∷
    parse "/DE8937040044-5\"20130900\r\nDEUTDEFF500\r\n" (ok Field50G (some "DE8937040044-5\"20130900") "DEUTDEFF500" [] ":50G:/DE8937040044-5\"20130900\nDEUTDEFF500") ∷
    parse "/X\r\nUBSW\nUBSWCHZ0\r\n" (no 1 0) ∷
    parse "1X-{Y?\r\nAbCdE112" (no 2 1) ∷
    parse "/1\nABCDEF\nABC/EFzGH" (no 1 0) ∷
    parse "0/ABCDEFGHIJKLMNOPQRSTUVWXYZ0123456\n/ABCDEFGHIJKLMNOPQRSTUVWXYZ01234567\n2/|yA-" (no 1 0) ∷
    parse "/DE89370400440532013000\r0440532013000\r\nDEUTDEFF500\r\n" (no 2 1) ∷
    parse "/XCB\r\ndeutdeff" (ok Field50G (some "XCB") "deutdeff" [] ":50G:/XCB\ndeutdeff") ∷
    parse "/DE8937040044053201\t000\r\nDEUTDEFF500\r\n" (no 3 1) ∷
    parse "/XABCDEFGHIJKLM\u{7f}OPQRSTUVWXYZ012345\nABCDEFGH\n" (no 3 1) ∷
    parse "/XA" (no 1 0) ∷
    parse "/A\nABC\u{7f}EFGAH\n\n" (no 1 0) ∷
    parse "UBSWCHZ0\n1/C|.,|1\r'y=Y9\n//*c*:]%\r/=:[=/ABCDEFGHIJKLMNOPQRSTUVWXYZ01234567\r\n0/z!(]x\r\n" (no 1 0) ∷
    parse "ABCDEF123AZ\n/= /+}BAY9\r" (no 2 1) ∷
    parse "XZ ;\nABCDE" (no 2 1) ∷
    parse "ABCDEFGHIJ\r1/ABCDEFGHIJKLMNOPQRSTUVWXYZ012345\nABCDEFGHI\n3/)x-x\rABCDEFGH" (no 1 0) ∷
    parse "0/b%X*|#\n" (no 1 0) ∷
    parse "/XY18c+\nAb CEf12" (no 10 2) ∷
    parse "0/'a-\n/:\n DEUTDEFF500" (no 1 0) ∷
    parse "6/ABCDEFGHIJKLMNOPQRSTUVWXYZ0123456\n/ABCDEFGHIJKLMNOPQRSTUVWXYZ01234567\n2/|$})\nABCDEFGH\rABCDEFGHIJKLMNOPQRSTUVWXYZ012345678\n5/&?1!9\r\n ABCDEFGH" (no 1 0) ∷
    parse "/DE893704\n0440532013000\r\nDEU" (no 1 0) ∷
    parse "/, &)\r\n6/'}\r2/(!,c" (no 10 2) ∷
    parse "/1\n1\nABCDDEFGH" (no 1 0) ∷
    parse "7/ABCDEFGHIJKLMNOPQRSTUVWXYZ01234567\n ABCDEFGH\nABCDEFGHIJKLMNOPQRSTUVWXYZ0123456789\n/ABCDEFGHIJKLMNOPQRSTUVWXYZ01234567\n/A%8[(|/\r\n/A/ABCDEFGHIJKLMNOPQRSTUVWXYZ012345678\n8/\r\n" (no 1 0) ∷
    parse "/|#&@|1\r\nABCDEFGHIJKLMNOPQRSTUVWXYZ01234567\rdeutdeff\r/ABCDEFGHIJKLMNOPQRSTUVWXYZ012345678\r ABCDEFGH\r\nABCDEFGHIJKLMNOPQRSTUVWXYZ0123456789 " (no 1 0) ∷
    parse "/DE89370400440532013000\r\nDEUTDEF\r500\r\n" (no 10 2) ∷
    []

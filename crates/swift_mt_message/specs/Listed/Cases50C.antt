-- Made of crates/replay/stdin by tests/rust/listed: the cases of 50C.
use Rattle.std.specs.Prelude.{List, [], ◌∷◌}
use Rattle.std.proofs.Math.Option.{none}
use Rattle.party.specs.declared.PartyOption.TheVariants.{Field50C}
use Rattle.swift_mt_message.specs.Cases.{Case, parse, ok, no}

abbrev pub cases : List Case
cases =
    parse "aBCDEFGH" (ok Field50C none "aBCDEFGH" [] ":50C:aBCDEFGH") ∷
    parse "AAAAZZAA" (ok Field50C none "AAAAZZAA" [] ":50C:AAAAZZAA") ∷
    parse "ABCDEFG" (no 9 1) ∷
    parse "ABCDEFGHI" (no 9 1) ∷
    parse "ABCDEFGHIJ" (no 9 1) ∷
    parse "ABCDEFGHIJKL" (no 9 1) ∷
    parse "1BCDEFGH" (no 10 1) ∷
    parse "ABCDE1GH" (no 10 1) ∷
    parse "ABCDEF-H" (no 10 1) ∷
    parse "ABCDEFGHIJ-" (no 10 1) ∷
    parse "" (no 9 1) ∷
    parse "A" (no 9 1) ∷
    parse "ABCDEFGH" (ok Field50C none "ABCDEFGH" [] ":50C:ABCDEFGH") ∷
    parse "ABCDEFGHIJK" (ok Field50C none "ABCDEFGHIJK" [] ":50C:ABCDEFGHIJK") ∷
    parse "\rABCDEFGH" (no 9 1) ∷
    parse "A\rBCDEFGH" (no 9 1) ∷
    parse "AB\rCDEFGH" (no 9 1) ∷
    parse "ABC\rDEFGH" (no 9 1) ∷
    parse "ABCD\rEFGH" (no 9 1) ∷
    parse "ABCDE\rFGH" (no 9 1) ∷
    parse "ABCDEF\rGH" (no 9 1) ∷
    parse "ABCDEFG\rH" (no 9 1) ∷
    parse "ABCDEFGH\r" (no 9 1) ∷
    parse "\nABCDEFGH" (no 9 1) ∷
    parse "A\nBCDEFGH" (no 9 1) ∷
    parse "AB\nCDEFGH" (no 9 1) ∷
    parse "ABC\nDEFGH" (no 9 1) ∷
    parse "ABCD\nEFGH" (no 9 1) ∷
    parse "ABCDE\nFGH" (no 9 1) ∷
    parse "ABCDEF\nGH" (no 9 1) ∷
    parse "ABCDEFG\nH" (no 9 1) ∷
    parse "ABCDEFGH\n" (no 9 1) ∷
    parse "\r\nABCDEFGH" (no 9 1) ∷
    parse "A\r\nBCDEFGH" (no 9 1) ∷
    parse "AB\r\nCDEFGH" (no 9 1) ∷
    parse "ABC\r\nDEFGH" (no 9 1) ∷
    parse "ABCD\r\nEFGH" (no 9 1) ∷
    parse "ABCDE\r\nFGH" (no 9 1) ∷
    parse "ABCDEF\r\nGH" (no 9 1) ∷
    parse "ABCDEFG\r\nH" (no 9 1) ∷
    parse "ABCDEFGH\r\n" (no 9 1) ∷
    parse "\rBCDEFGH" (no 10 1) ∷
    parse "A\rCDEFGH" (no 10 1) ∷
    parse "AB\rDEFGH" (no 10 1) ∷
    parse "ABC\rEFGH" (no 10 1) ∷
    parse "ABCD\rFGH" (no 10 1) ∷
    parse "ABCDE\rGH" (no 10 1) ∷
    parse "ABCDEF\rH" (no 10 1) ∷
    parse "ABCDEFG\r" (no 10 1) ∷
    parse "\nBCDEFGH" (no 10 1) ∷
    parse "A\nCDEFGH" (no 10 1) ∷
    parse "AB\nDEFGH" (no 10 1) ∷
    parse "ABC\nEFGH" (no 10 1) ∷
    parse "ABCD\nFGH" (no 10 1) ∷
    parse "ABCDE\nGH" (no 10 1) ∷
    parse "ABCDEF\nH" (no 10 1) ∷
    parse "ABCDEFG\n" (no 10 1) ∷
    parse "\0BCDEFGH" (no 10 1) ∷
    parse "\u{1}BCDEFGH" (no 10 1) ∷
    parse "\u{2}BCDEFGH" (no 10 1) ∷
    parse "\u{3}BCDEFGH" (no 10 1) ∷
    parse "\u{4}BCDEFGH" (no 10 1) ∷
    parse "\u{5}BCDEFGH" (no 10 1) ∷
    parse "\u{6}BCDEFGH" (no 10 1) ∷
    parse "\u{7}BCDEFGH" (no 10 1) ∷
    parse "\u{8}BCDEFGH" (no 10 1) ∷
    parse "\tBCDEFGH" (no 10 1) ∷
    parse "\u{b}BCDEFGH" (no 10 1) ∷
    parse "\u{c}BCDEFGH" (no 10 1) ∷
    parse "\u{e}BCDEFGH" (no 10 1) ∷
    parse "\u{f}BCDEFGH" (no 10 1) ∷
    parse "\u{10}BCDEFGH" (no 10 1) ∷
    parse "\u{11}BCDEFGH" (no 10 1) ∷
    parse "\u{12}BCDEFGH" (no 10 1) ∷
    parse "\u{13}BCDEFGH" (no 10 1) ∷
    parse "\u{14}BCDEFGH" (no 10 1) ∷
    parse "\u{15}BCDEFGH" (no 10 1) ∷
    parse "\u{16}BCDEFGH" (no 10 1) ∷
    parse "\u{17}BCDEFGH" (no 10 1) ∷
    parse "\u{18}BCDEFGH" (no 10 1) ∷
    parse "\u{19}BCDEFGH" (no 10 1) ∷
    parse "\u{1a}BCDEFGH" (no 10 1) ∷
    parse "\u{1b}BCDEFGH" (no 10 1) ∷
    parse "\u{1c}BCDEFGH" (no 10 1) ∷
    parse "\u{1d}BCDEFGH" (no 10 1) ∷
    parse "\u{1e}BCDEFGH" (no 10 1) ∷
    parse "\u{1f}BCDEFGH" (no 10 1) ∷
    parse " BCDEFGH" (no 10 1) ∷
    parse "!BCDEFGH" (no 10 1) ∷
    parse "\"BCDEFGH" (no 10 1) ∷
    parse "#BCDEFGH" (no 10 1) ∷
    parse "$BCDEFGH" (no 10 1) ∷
    parse "%BCDEFGH" (no 10 1) ∷
    parse "&BCDEFGH" (no 10 1) ∷
    parse "'BCDEFGH" (no 10 1) ∷
    parse "(BCDEFGH" (no 10 1) ∷
    parse ")BCDEFGH" (no 10 1) ∷
    parse "*BCDEFGH" (no 10 1) ∷
    parse "+BCDEFGH" (no 10 1) ∷
    parse ",BCDEFGH" (no 10 1) ∷
    parse "-BCDEFGH" (no 10 1) ∷
    parse ".BCDEFGH" (no 10 1) ∷
    parse "/BCDEFGH" (no 10 1) ∷
    parse "0BCDEFGH" (no 10 1) ∷
    parse "2BCDEFGH" (no 10 1) ∷
    parse "3BCDEFGH" (no 10 1) ∷
    parse "4BCDEFGH" (no 10 1) ∷
    parse "5BCDEFGH" (no 10 1) ∷
    parse "6BCDEFGH" (no 10 1) ∷
    parse "7BCDEFGH" (no 10 1) ∷
    parse "8BCDEFGH" (no 10 1) ∷
    parse "9BCDEFGH" (no 10 1) ∷
    parse ":BCDEFGH" (no 10 1) ∷
    parse ";BCDEFGH" (no 10 1) ∷
    parse "<BCDEFGH" (no 10 1) ∷
    parse "=BCDEFGH" (no 10 1) ∷
    parse ">BCDEFGH" (no 10 1) ∷
    parse "?BCDEFGH" (no 10 1) ∷
    parse "@BCDEFGH" (no 10 1) ∷
    parse "BBCDEFGH" (ok Field50C none "BBCDEFGH" [] ":50C:BBCDEFGH") ∷
    parse "CBCDEFGH" (ok Field50C none "CBCDEFGH" [] ":50C:CBCDEFGH") ∷
    parse "DBCDEFGH" (ok Field50C none "DBCDEFGH" [] ":50C:DBCDEFGH") ∷
    parse "EBCDEFGH" (ok Field50C none "EBCDEFGH" [] ":50C:EBCDEFGH") ∷
    parse "FBCDEFGH" (ok Field50C none "FBCDEFGH" [] ":50C:FBCDEFGH") ∷
    parse "GBCDEFGH" (ok Field50C none "GBCDEFGH" [] ":50C:GBCDEFGH") ∷
    parse "HBCDEFGH" (ok Field50C none "HBCDEFGH" [] ":50C:HBCDEFGH") ∷
    parse "IBCDEFGH" (ok Field50C none "IBCDEFGH" [] ":50C:IBCDEFGH") ∷
    parse "JBCDEFGH" (ok Field50C none "JBCDEFGH" [] ":50C:JBCDEFGH") ∷
    parse "KBCDEFGH" (ok Field50C none "KBCDEFGH" [] ":50C:KBCDEFGH") ∷
    parse "LBCDEFGH" (ok Field50C none "LBCDEFGH" [] ":50C:LBCDEFGH") ∷
    parse "MBCDEFGH" (ok Field50C none "MBCDEFGH" [] ":50C:MBCDEFGH") ∷
    parse "NBCDEFGH" (ok Field50C none "NBCDEFGH" [] ":50C:NBCDEFGH") ∷
    parse "OBCDEFGH" (ok Field50C none "OBCDEFGH" [] ":50C:OBCDEFGH") ∷
    parse "PBCDEFGH" (ok Field50C none "PBCDEFGH" [] ":50C:PBCDEFGH") ∷
    parse "QBCDEFGH" (ok Field50C none "QBCDEFGH" [] ":50C:QBCDEFGH") ∷
    parse "RBCDEFGH" (ok Field50C none "RBCDEFGH" [] ":50C:RBCDEFGH") ∷
    parse "SBCDEFGH" (ok Field50C none "SBCDEFGH" [] ":50C:SBCDEFGH") ∷
    parse "TBCDEFGH" (ok Field50C none "TBCDEFGH" [] ":50C:TBCDEFGH") ∷
    parse "UBCDEFGH" (ok Field50C none "UBCDEFGH" [] ":50C:UBCDEFGH") ∷
    parse "VBCDEFGH" (ok Field50C none "VBCDEFGH" [] ":50C:VBCDEFGH") ∷
    parse "WBCDEFGH" (ok Field50C none "WBCDEFGH" [] ":50C:WBCDEFGH") ∷
    parse "XBCDEFGH" (ok Field50C none "XBCDEFGH" [] ":50C:XBCDEFGH") ∷
    parse "YBCDEFGH" (ok Field50C none "YBCDEFGH" [] ":50C:YBCDEFGH") ∷
    parse "ZBCDEFGH" (ok Field50C none "ZBCDEFGH" [] ":50C:ZBCDEFGH") ∷
    parse "[BCDEFGH" (no 10 1) ∷
    parse "\\BCDEFGH" (no 10 1) ∷
    parse "]BCDEFGH" (no 10 1) ∷
    parse "^BCDEFGH" (no 10 1) ∷
    parse "_BCDEFGH" (no 10 1) ∷
    parse "`BCDEFGH" (no 10 1) ∷
    parse "bBCDEFGH" (ok Field50C none "bBCDEFGH" [] ":50C:bBCDEFGH") ∷
    parse "cBCDEFGH" (ok Field50C none "cBCDEFGH" [] ":50C:cBCDEFGH") ∷
    parse "dBCDEFGH" (ok Field50C none "dBCDEFGH" [] ":50C:dBCDEFGH") ∷
    parse "eBCDEFGH" (ok Field50C none "eBCDEFGH" [] ":50C:eBCDEFGH") ∷
    parse "fBCDEFGH" (ok Field50C none "fBCDEFGH" [] ":50C:fBCDEFGH") ∷
    parse "gBCDEFGH" (ok Field50C none "gBCDEFGH" [] ":50C:gBCDEFGH") ∷
    parse "hBCDEFGH" (ok Field50C none "hBCDEFGH" [] ":50C:hBCDEFGH") ∷
    parse "iBCDEFGH" (ok Field50C none "iBCDEFGH" [] ":50C:iBCDEFGH") ∷
    parse "jBCDEFGH" (ok Field50C none "jBCDEFGH" [] ":50C:jBCDEFGH") ∷
    parse "kBCDEFGH" (ok Field50C none "kBCDEFGH" [] ":50C:kBCDEFGH") ∷
    parse "lBCDEFGH" (ok Field50C none "lBCDEFGH" [] ":50C:lBCDEFGH") ∷
    parse "mBCDEFGH" (ok Field50C none "mBCDEFGH" [] ":50C:mBCDEFGH") ∷
    parse "nBCDEFGH" (ok Field50C none "nBCDEFGH" [] ":50C:nBCDEFGH") ∷
    parse "oBCDEFGH" (ok Field50C none "oBCDEFGH" [] ":50C:oBCDEFGH") ∷
    parse "pBCDEFGH" (ok Field50C none "pBCDEFGH" [] ":50C:pBCDEFGH") ∷
    parse "qBCDEFGH" (ok Field50C none "qBCDEFGH" [] ":50C:qBCDEFGH") ∷
    parse "rBCDEFGH" (ok Field50C none "rBCDEFGH" [] ":50C:rBCDEFGH") ∷
    parse "sBCDEFGH" (ok Field50C none "sBCDEFGH" [] ":50C:sBCDEFGH") ∷
    parse "tBCDEFGH" (ok Field50C none "tBCDEFGH" [] ":50C:tBCDEFGH") ∷
    parse "uBCDEFGH" (ok Field50C none "uBCDEFGH" [] ":50C:uBCDEFGH") ∷
    parse "vBCDEFGH" (ok Field50C none "vBCDEFGH" [] ":50C:vBCDEFGH") ∷
    parse "wBCDEFGH" (ok Field50C none "wBCDEFGH" [] ":50C:wBCDEFGH") ∷
    parse "xBCDEFGH" (ok Field50C none "xBCDEFGH" [] ":50C:xBCDEFGH") ∷
    parse "yBCDEFGH" (ok Field50C none "yBCDEFGH" [] ":50C:yBCDEFGH") ∷
    parse "zBCDEFGH" (ok Field50C none "zBCDEFGH" [] ":50C:zBCDEFGH") ∷
    parse "{BCDEFGH" (no 10 1) ∷
    parse "|BCDEFGH" (no 10 1) ∷
    parse "}BCDEFGH" (no 10 1) ∷
    parse "~BCDEFGH" (no 10 1) ∷
    parse "\u{7f}BCDEFGH" (no 10 1) ∷
    parse "ABCDEFG\0" (no 10 1) ∷
    parse "ABCDEFG\u{1}" (no 10 1) ∷
    parse "ABCDEFG\u{2}" (no 10 1) ∷
    parse "ABCDEFG\u{3}" (no 10 1) ∷
    parse "ABCDEFG\u{4}" (no 10 1) ∷
    parse "ABCDEFG\u{5}" (no 10 1) ∷
    parse "ABCDEFG\u{6}" (no 10 1) ∷
    parse "ABCDEFG\u{7}" (no 10 1) ∷
    parse "ABCDEFG\u{8}" (no 10 1) ∷
    parse "ABCDEFG\t" (no 10 1) ∷
    parse "ABCDEFG\u{b}" (no 10 1) ∷
    parse "ABCDEFG\u{c}" (no 10 1) ∷
    parse "ABCDEFG\u{e}" (no 10 1) ∷
    parse "ABCDEFG\u{f}" (no 10 1) ∷
    parse "ABCDEFG\u{10}" (no 10 1) ∷
    parse "ABCDEFG\u{11}" (no 10 1) ∷
    parse "ABCDEFG\u{12}" (no 10 1) ∷
    parse "ABCDEFG\u{13}" (no 10 1) ∷
    parse "ABCDEFG\u{14}" (no 10 1) ∷
    parse "ABCDEFG\u{15}" (no 10 1) ∷
    parse "ABCDEFG\u{16}" (no 10 1) ∷
    parse "ABCDEFG\u{17}" (no 10 1) ∷
    parse "ABCDEFG\u{18}" (no 10 1) ∷
    parse "ABCDEFG\u{19}" (no 10 1) ∷
    parse "ABCDEFG\u{1a}" (no 10 1) ∷
    parse "ABCDEFG\u{1b}" (no 10 1) ∷
    parse "ABCDEFG\u{1c}" (no 10 1) ∷
    parse "ABCDEFG\u{1d}" (no 10 1) ∷
    parse "ABCDEFG\u{1e}" (no 10 1) ∷
    parse "ABCDEFG\u{1f}" (no 10 1) ∷
    parse "ABCDEFG " (no 10 1) ∷
    parse "ABCDEFG!" (no 10 1) ∷
    parse "ABCDEFG\"" (no 10 1) ∷
    parse "ABCDEFG#" (no 10 1) ∷
    parse "ABCDEFG$" (no 10 1) ∷
    parse "ABCDEFG%" (no 10 1) ∷
    parse "ABCDEFG&" (no 10 1) ∷
    parse "ABCDEFG'" (no 10 1) ∷
    parse "ABCDEFG(" (no 10 1) ∷
    parse "ABCDEFG)" (no 10 1) ∷
    parse "ABCDEFG*" (no 10 1) ∷
    parse "ABCDEFG+" (no 10 1) ∷
    parse "ABCDEFG," (no 10 1) ∷
    parse "ABCDEFG-" (no 10 1) ∷
    parse "ABCDEFG." (no 10 1) ∷
    parse "ABCDEFG/" (no 10 1) ∷
    parse "ABCDEFG0" (ok Field50C none "ABCDEFG0" [] ":50C:ABCDEFG0") ∷
    parse "ABCDEFG1" (ok Field50C none "ABCDEFG1" [] ":50C:ABCDEFG1") ∷
    parse "ABCDEFG2" (ok Field50C none "ABCDEFG2" [] ":50C:ABCDEFG2") ∷
    parse "ABCDEFG3" (ok Field50C none "ABCDEFG3" [] ":50C:ABCDEFG3") ∷
    parse "ABCDEFG4" (ok Field50C none "ABCDEFG4" [] ":50C:ABCDEFG4") ∷
    parse "ABCDEFG5" (ok Field50C none "ABCDEFG5" [] ":50C:ABCDEFG5") ∷
    parse "ABCDEFG6" (ok Field50C none "ABCDEFG6" [] ":50C:ABCDEFG6") ∷
    parse "ABCDEFG7" (ok Field50C none "ABCDEFG7" [] ":50C:ABCDEFG7") ∷
    parse "ABCDEFG8" (ok Field50C none "ABCDEFG8" [] ":50C:ABCDEFG8") ∷
    parse "ABCDEFG9" (ok Field50C none "ABCDEFG9" [] ":50C:ABCDEFG9") ∷
    parse "ABCDEFG:" (no 10 1) ∷
    parse "ABCDEFG;" (no 10 1) ∷
    parse "ABCDEFG<" (no 10 1) ∷
    parse "ABCDEFG=" (no 10 1) ∷
    parse "ABCDEFG>" (no 10 1) ∷
    parse "ABCDEFG?" (no 10 1) ∷
    parse "ABCDEFG@" (no 10 1) ∷
    parse "ABCDEFGA" (ok Field50C none "ABCDEFGA" [] ":50C:ABCDEFGA") ∷
    parse "ABCDEFGB" (ok Field50C none "ABCDEFGB" [] ":50C:ABCDEFGB") ∷
    parse "ABCDEFGC" (ok Field50C none "ABCDEFGC" [] ":50C:ABCDEFGC") ∷
    parse "ABCDEFGD" (ok Field50C none "ABCDEFGD" [] ":50C:ABCDEFGD") ∷
    parse "ABCDEFGE" (ok Field50C none "ABCDEFGE" [] ":50C:ABCDEFGE") ∷
    parse "ABCDEFGF" (ok Field50C none "ABCDEFGF" [] ":50C:ABCDEFGF") ∷
    parse "ABCDEFGG" (ok Field50C none "ABCDEFGG" [] ":50C:ABCDEFGG") ∷
    parse "ABCDEFGI" (ok Field50C none "ABCDEFGI" [] ":50C:ABCDEFGI") ∷
    parse "ABCDEFGJ" (ok Field50C none "ABCDEFGJ" [] ":50C:ABCDEFGJ") ∷
    parse "ABCDEFGK" (ok Field50C none "ABCDEFGK" [] ":50C:ABCDEFGK") ∷
    parse "ABCDEFGL" (ok Field50C none "ABCDEFGL" [] ":50C:ABCDEFGL") ∷
    parse "ABCDEFGM" (ok Field50C none "ABCDEFGM" [] ":50C:ABCDEFGM") ∷
    parse "ABCDEFGN" (ok Field50C none "ABCDEFGN" [] ":50C:ABCDEFGN") ∷
    parse "ABCDEFGO" (ok Field50C none "ABCDEFGO" [] ":50C:ABCDEFGO") ∷
    parse "ABCDEFGP" (ok Field50C none "ABCDEFGP" [] ":50C:ABCDEFGP") ∷
    parse "ABCDEFGQ" (ok Field50C none "ABCDEFGQ" [] ":50C:ABCDEFGQ") ∷
    parse "ABCDEFGR" (ok Field50C none "ABCDEFGR" [] ":50C:ABCDEFGR") ∷
    parse "ABCDEFGS" (ok Field50C none "ABCDEFGS" [] ":50C:ABCDEFGS") ∷
    parse "ABCDEFGT" (ok Field50C none "ABCDEFGT" [] ":50C:ABCDEFGT") ∷
    parse "ABCDEFGU" (ok Field50C none "ABCDEFGU" [] ":50C:ABCDEFGU") ∷
    parse "ABCDEFGV" (ok Field50C none "ABCDEFGV" [] ":50C:ABCDEFGV") ∷
    parse "ABCDEFGW" (ok Field50C none "ABCDEFGW" [] ":50C:ABCDEFGW") ∷
    parse "ABCDEFGX" (ok Field50C none "ABCDEFGX" [] ":50C:ABCDEFGX") ∷
    parse "ABCDEFGY" (ok Field50C none "ABCDEFGY" [] ":50C:ABCDEFGY") ∷
    parse "ABCDEFGZ" (ok Field50C none "ABCDEFGZ" [] ":50C:ABCDEFGZ") ∷
    parse "ABCDEFG[" (no 10 1) ∷
    parse "ABCDEFG\\" (no 10 1) ∷
    parse "ABCDEFG]" (no 10 1) ∷
    parse "ABCDEFG^" (no 10 1) ∷
    parse "ABCDEFG_" (no 10 1) ∷
    parse "ABCDEFG`" (no 10 1) ∷
    parse "ABCDEFGa" (ok Field50C none "ABCDEFGa" [] ":50C:ABCDEFGa") ∷
    parse "ABCDEFGb" (ok Field50C none "ABCDEFGb" [] ":50C:ABCDEFGb") ∷
    parse "ABCDEFGc" (ok Field50C none "ABCDEFGc" [] ":50C:ABCDEFGc") ∷
    parse "ABCDEFGd" (ok Field50C none "ABCDEFGd" [] ":50C:ABCDEFGd") ∷
    parse "ABCDEFGe" (ok Field50C none "ABCDEFGe" [] ":50C:ABCDEFGe") ∷
    parse "ABCDEFGf" (ok Field50C none "ABCDEFGf" [] ":50C:ABCDEFGf") ∷
    parse "ABCDEFGg" (ok Field50C none "ABCDEFGg" [] ":50C:ABCDEFGg") ∷
    parse "ABCDEFGh" (ok Field50C none "ABCDEFGh" [] ":50C:ABCDEFGh") ∷
    parse "ABCDEFGi" (ok Field50C none "ABCDEFGi" [] ":50C:ABCDEFGi") ∷
    parse "ABCDEFGj" (ok Field50C none "ABCDEFGj" [] ":50C:ABCDEFGj") ∷
    parse "ABCDEFGk" (ok Field50C none "ABCDEFGk" [] ":50C:ABCDEFGk") ∷
    parse "ABCDEFGl" (ok Field50C none "ABCDEFGl" [] ":50C:ABCDEFGl") ∷
    parse "ABCDEFGm" (ok Field50C none "ABCDEFGm" [] ":50C:ABCDEFGm") ∷
    parse "ABCDEFGn" (ok Field50C none "ABCDEFGn" [] ":50C:ABCDEFGn") ∷
    parse "ABCDEFGo" (ok Field50C none "ABCDEFGo" [] ":50C:ABCDEFGo") ∷
    parse "ABCDEFGp" (ok Field50C none "ABCDEFGp" [] ":50C:ABCDEFGp") ∷
    parse "ABCDEFGq" (ok Field50C none "ABCDEFGq" [] ":50C:ABCDEFGq") ∷
    parse "ABCDEFGr" (ok Field50C none "ABCDEFGr" [] ":50C:ABCDEFGr") ∷
    parse "ABCDEFGs" (ok Field50C none "ABCDEFGs" [] ":50C:ABCDEFGs") ∷
    parse "ABCDEFGt" (ok Field50C none "ABCDEFGt" [] ":50C:ABCDEFGt") ∷
    parse "ABCDEFGu" (ok Field50C none "ABCDEFGu" [] ":50C:ABCDEFGu") ∷
    parse "ABCDEFGv" (ok Field50C none "ABCDEFGv" [] ":50C:ABCDEFGv") ∷
    parse "ABCDEFGw" (ok Field50C none "ABCDEFGw" [] ":50C:ABCDEFGw") ∷
    parse "ABCDEFGx" (ok Field50C none "ABCDEFGx" [] ":50C:ABCDEFGx") ∷
    parse "ABCDEFGy" (ok Field50C none "ABCDEFGy" [] ":50C:ABCDEFGy") ∷
    parse "ABCDEFGz" (ok Field50C none "ABCDEFGz" [] ":50C:ABCDEFGz") ∷
    parse "ABCDEFG{" (no 10 1) ∷
    parse "ABCDEFG|" (no 10 1) ∷
    parse "ABCDEFG}" (no 10 1) ∷
    parse "ABCDEFG~" (no 10 1) ∷
    parse "ABCDEFG\u{7f}" (no 10 1) ∷
    parse "A\tCDEFGH" (no 10 1) ∷
    parse "A!CDEFGH" (no 10 1) ∷
    parse "A0CDEFGH" (no 10 1) ∷
    parse "AZCDEFGH" (ok Field50C none "AZCDEFGH" [] ":50C:AZCDEFGH") ∷
    parse "AaCDEFGH" (ok Field50C none "AaCDEFGH" [] ":50C:AaCDEFGH") ∷
    parse "A{CDEFGH" (no 10 1) ∷
    parse "AB\0DEFGH" (no 10 1) ∷
    parse "AB DEFGH" (no 10 1) ∷
    parse "AB/DEFGH" (no 10 1) ∷
    parse "AB@DEFGH" (no 10 1) ∷
    parse "AB[DEFGH" (no 10 1) ∷
    parse "ABzDEFGH" (ok Field50C none "ABzDEFGH" [] ":50C:ABzDEFGH") ∷
    parse "AB~DEFGH" (no 10 1) ∷
    parse "ABC\tEFGH" (no 10 1) ∷
    parse "ABC!EFGH" (no 10 1) ∷
    parse "ABC0EFGH" (no 10 1) ∷
    parse "ABCZEFGH" (ok Field50C none "ABCZEFGH" [] ":50C:ABCZEFGH") ∷
    parse "ABCaEFGH" (ok Field50C none "ABCaEFGH" [] ":50C:ABCaEFGH") ∷
    parse "ABC{EFGH" (no 10 1) ∷
    parse "ABCD\0FGH" (no 10 1) ∷
    parse "ABCD FGH" (no 10 1) ∷
    parse "ABCD/FGH" (no 10 1) ∷
    parse "ABCD@FGH" (no 10 1) ∷
    parse "ABCD[FGH" (no 10 1) ∷
    parse "ABCDzFGH" (ok Field50C none "ABCDzFGH" [] ":50C:ABCDzFGH") ∷
    parse "ABCD~FGH" (no 10 1) ∷
    parse "ABCDE\tGH" (no 10 1) ∷
    parse "ABCDE!GH" (no 10 1) ∷
    parse "ABCDE0GH" (no 10 1) ∷
    parse "ABCDEZGH" (ok Field50C none "ABCDEZGH" [] ":50C:ABCDEZGH") ∷
    parse "ABCDEaGH" (ok Field50C none "ABCDEaGH" [] ":50C:ABCDEaGH") ∷
    parse "ABCDE{GH" (no 10 1) ∷
    parse "ABCDEF\0H" (no 10 1) ∷
    parse "ABCDEF H" (no 10 1) ∷
    parse "ABCDEF/H" (no 10 1) ∷
    parse "ABCDEF@H" (no 10 1) ∷
    parse "ABCDEF[H" (no 10 1) ∷
    parse "ABCDEFzH" (ok Field50C none "ABCDEFzH" [] ":50C:ABCDEFzH") ∷
    parse "ABCDEF~H" (no 10 1) ∷
    parse " BCDEFGHIJK" (no 10 1) ∷
    parse "/BCDEFGHIJK" (no 10 1) ∷
    parse "0BCDEFGHIJK" (no 10 1) ∷
    parse "[BCDEFGHIJK" (no 10 1) ∷
    parse "`BCDEFGHIJK" (no 10 1) ∷
    parse "~BCDEFGHIJK" (no 10 1) ∷
    parse "A CDEFGHIJK" (no 10 1) ∷
    parse "A/CDEFGHIJK" (no 10 1) ∷
    parse "A0CDEFGHIJK" (no 10 1) ∷
    parse "A[CDEFGHIJK" (no 10 1) ∷
    parse "A`CDEFGHIJK" (no 10 1) ∷
    parse "A~CDEFGHIJK" (no 10 1) ∷
    parse "AB DEFGHIJK" (no 10 1) ∷
    parse "AB/DEFGHIJK" (no 10 1) ∷
    parse "AB0DEFGHIJK" (no 10 1) ∷
    parse "AB[DEFGHIJK" (no 10 1) ∷
    parse "AB`DEFGHIJK" (no 10 1) ∷
    parse "AB~DEFGHIJK" (no 10 1) ∷
    parse "ABC EFGHIJK" (no 10 1) ∷
    parse "ABC/EFGHIJK" (no 10 1) ∷
    parse "ABC0EFGHIJK" (no 10 1) ∷
    parse "ABC[EFGHIJK" (no 10 1) ∷
    parse "ABC`EFGHIJK" (no 10 1) ∷
    parse "ABC~EFGHIJK" (no 10 1) ∷
    parse "ABCD FGHIJK" (no 10 1) ∷
    parse "ABCD/FGHIJK" (no 10 1) ∷
    parse "ABCD0FGHIJK" (no 10 1) ∷
    parse "ABCD[FGHIJK" (no 10 1) ∷
    parse "ABCD`FGHIJK" (no 10 1) ∷
    parse "ABCD~FGHIJK" (no 10 1) ∷
    parse "ABCDE GHIJK" (no 10 1) ∷
    parse "ABCDE/GHIJK" (no 10 1) ∷
    parse "ABCDE0GHIJK" (no 10 1) ∷
    parse "ABCDE[GHIJK" (no 10 1) ∷
    parse "ABCDE`GHIJK" (no 10 1) ∷
    parse "ABCDE~GHIJK" (no 10 1) ∷
    parse "ABCDEF HIJK" (no 10 1) ∷
    parse "ABCDEF/HIJK" (no 10 1) ∷
    parse "ABCDEF0HIJK" (ok Field50C none "ABCDEF0HIJK" [] ":50C:ABCDEF0HIJK") ∷
    parse "ABCDEF[HIJK" (no 10 1) ∷
    parse "ABCDEF`HIJK" (no 10 1) ∷
    parse "ABCDEF~HIJK" (no 10 1) ∷
    parse "ABCDEFG IJK" (no 10 1) ∷
    parse "ABCDEFG/IJK" (no 10 1) ∷
    parse "ABCDEFG0IJK" (ok Field50C none "ABCDEFG0IJK" [] ":50C:ABCDEFG0IJK") ∷
    parse "ABCDEFG[IJK" (no 10 1) ∷
    parse "ABCDEFG`IJK" (no 10 1) ∷
    parse "ABCDEFG~IJK" (no 10 1) ∷
    parse "ABCDEFGH JK" (no 10 1) ∷
    parse "ABCDEFGH/JK" (no 10 1) ∷
    parse "ABCDEFGH0JK" (ok Field50C none "ABCDEFGH0JK" [] ":50C:ABCDEFGH0JK") ∷
    parse "ABCDEFGH[JK" (no 10 1) ∷
    parse "ABCDEFGH`JK" (no 10 1) ∷
    parse "ABCDEFGH~JK" (no 10 1) ∷
    parse "ABCDEFGHI K" (no 10 1) ∷
    parse "ABCDEFGHI/K" (no 10 1) ∷
    parse "ABCDEFGHI0K" (ok Field50C none "ABCDEFGHI0K" [] ":50C:ABCDEFGHI0K") ∷
    parse "ABCDEFGHI[K" (no 10 1) ∷
    parse "ABCDEFGHI`K" (no 10 1) ∷
    parse "ABCDEFGHI~K" (no 10 1) ∷
    parse "ABCDEFGHIJ " (no 10 1) ∷
    parse "ABCDEFGHIJ/" (no 10 1) ∷
    parse "ABCDEFGHIJ0" (ok Field50C none "ABCDEFGHIJ0" [] ":50C:ABCDEFGHIJ0") ∷
    parse "ABCDEFGHIJ[" (no 10 1) ∷
    parse "ABCDEFGHIJ`" (no 10 1) ∷
    parse "ABCDEFGHIJ~" (no 10 1) ∷
    parse "UBSACHZ0" (ok Field50C none "UBSACHZ0" [] ":50C:UBSACHZ0") ∷
    parse "ABCD" (no 9 1) ∷
    parse "3/$0*&\r7/\"0{a\r\nUBSWCHZ0\nABCDEFGHIJKLMNOPQRSTUVWXYZ0123456789\r\n\n//" (no 9 1) ∷
    parse "DEU\tDEFF\r00/" (no 9 1) ∷
    parse "A/" (no 9 1) ∷
    parse "ABCDEFGHIJKLMNOPQRSTUVWXYZ0123456\r\n/!,|\n\r\n/\r\n" (no 9 1) ∷
    parse "Yy;&z<\r\nDEUTDEFF500\nDEUTDEFF500\n ABCDEF123AZ\n\n" (no 9 1) ∷
    parse " AbCdEf12\n3/ABCDEFGHIJKLMNOPQRSTUVWXYZ01234567" (no 9 1) ∷
    parse "6/ABCDEFGHIJKLMNOPQRSTUVWXYZ01234567\nDEUTDEFF500\n" (no 9 1) ∷
    parse "ABCDEFGHI\r1/9)z\nABCDEF123AZ" (no 9 1) ∷
    parse "uBswCh\n\n0\n0" (no 10 1) ∷
    parse "9/'],*$\nDEUTDEFF500\n/Y'xB!>\r\n{8y\n" (no 9 1) ∷
    []

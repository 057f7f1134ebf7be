-- Made of crates/replay/stdin by tests/rust/listed: the cases of Field50InstructingParty.
use Rattle.std.specs.Prelude.{List, [], ◌∷◌}
use Rattle.std.proofs.Math.Option.{none, some}
use Rattle.party.specs.declared.PartyOption.TheVariants.{Field50C, Field50L}
use Rattle.swift_mt_message.specs.Cases.{Case, parse, without, by, ok, no}

abbrev pub cases : List Case
cases =
    by "c" "A" (ok Field50L (some "A") "" [] ":50L:A") ∷
    by "0" "A" (ok Field50L (some "A") "" [] ":50L:A") ∷
    by "~" "A" (ok Field50L (some "A") "" [] ":50L:A") ∷
    by "C" "ABCDEFG" (no 9 1) ∷
    by "C" "1BCDEFGH" (no 10 1) ∷
    by "L" "\n" (no 1 0) ∷
    by "L" "" (no 2 1) ∷
    by "L" "~" (no 3 1) ∷
    parse "ABCDEFGH" (ok Field50C none "ABCDEFGH" [] ":50C:ABCDEFGH") ∷
    parse "" (no 11 0) ∷
    parse "~" (no 11 0) ∷
    parse "/~\n~" (no 11 0) ∷
    parse "DEUTDEFF" (ok Field50C none "DEUTDEFF" [] ":50C:DEUTDEFF") ∷
    parse "DEUTDEFF500" (ok Field50C none "DEUTDEFF500" [] ":50C:DEUTDEFF500") ∷
    parse "uBswChz0" (ok Field50C none "uBswChz0" [] ":50C:uBswChz0") ∷
    parse "AB" (ok Field50L (some "AB") "" [] ":50L:AB") ∷
    parse "PARTY 4711" (ok Field50L (some "PARTY 4711") "" [] ":50L:PARTY 4711") ∷
    parse "/1234567890" (ok Field50L (some "/1234567890") "" [] ":50L:/1234567890") ∷
    without "ABCDEFGH" (ok Field50C none "ABCDEFGH" [] ":50C:ABCDEFGH") ∷
    without "" (no 11 0) ∷
    without "~" (no 11 0) ∷
    without "/~\n~" (no 11 0) ∷
    without "DEUTDEFF" (ok Field50C none "DEUTDEFF" [] ":50C:DEUTDEFF") ∷
    without "DEUTDEFF500" (ok Field50C none "DEUTDEFF500" [] ":50C:DEUTDEFF500") ∷
    without "uBswChz0" (ok Field50C none "uBswChz0" [] ":50C:uBswChz0") ∷
    without "AB" (ok Field50L (some "AB") "" [] ":50L:AB") ∷
    without "PARTY 4711" (ok Field50L (some "PARTY 4711") "" [] ":50L:PARTY 4711") ∷
    without "/1234567890" (ok Field50L (some "/1234567890") "" [] ":50L:/1234567890") ∷
    by "C" "ABCDEFGH" (ok Field50C none "ABCDEFGH" [] ":50C:ABCDEFGH") ∷
    by "C" "" (no 9 1) ∷
    by "C" "~" (no 9 1) ∷
    by "C" "/~\n~" (no 9 1) ∷
    by "C" "DEUTDEFF" (ok Field50C none "DEUTDEFF" [] ":50C:DEUTDEFF") ∷
    by "C" "DEUTDEFF500" (ok Field50C none "DEUTDEFF500" [] ":50C:DEUTDEFF500") ∷
    by "C" "uBswChz0" (ok Field50C none "uBswChz0" [] ":50C:uBswChz0") ∷
    by "C" "AB" (no 9 1) ∷
    by "C" "PARTY 4711" (no 9 1) ∷
    by "C" "/1234567890" (no 10 1) ∷
    by "L" "ABCDEFGH" (ok Field50L (some "ABCDEFGH") "" [] ":50L:ABCDEFGH") ∷
    by "L" "/~\n~" (no 1 0) ∷
    by "L" "DEUTDEFF" (ok Field50L (some "DEUTDEFF") "" [] ":50L:DEUTDEFF") ∷
    by "L" "DEUTDEFF500" (ok Field50L (some "DEUTDEFF500") "" [] ":50L:DEUTDEFF500") ∷
    by "L" "uBswChz0" (ok Field50L (some "uBswChz0") "" [] ":50L:uBswChz0") ∷
    by "L" "AB" (ok Field50L (some "AB") "" [] ":50L:AB") ∷
    by "L" "PARTY 4711" (ok Field50L (some "PARTY 4711") "" [] ":50L:PARTY 4711") ∷
    by "L" "/1234567890" (ok Field50L (some "/1234567890") "" [] ":50L:/1234567890") ∷
    by "A" "ABCDEFGH" (ok Field50C none "ABCDEFGH" [] ":50C:ABCDEFGH") ∷
    by "B" "ABCDEFGH" (ok Field50C none "ABCDEFGH" [] ":50C:ABCDEFGH") ∷
    by "F" "ABCDEFGH" (ok Field50C none "ABCDEFGH" [] ":50C:ABCDEFGH") ∷
    by "G" "ABCDEFGH" (ok Field50C none "ABCDEFGH" [] ":50C:ABCDEFGH") ∷
    by "H" "ABCDEFGH" (ok Field50C none "ABCDEFGH" [] ":50C:ABCDEFGH") ∷
    by "K" "ABCDEFGH" (ok Field50C none "ABCDEFGH" [] ":50C:ABCDEFGH") ∷
    by "Y" "ABCDEFGH" (ok Field50C none "ABCDEFGH" [] ":50C:ABCDEFGH") ∷
    by "Z" "ABCDEFGH" (ok Field50C none "ABCDEFGH" [] ":50C:ABCDEFGH") ∷
    by "A" "" (no 11 0) ∷
    by "A" "~" (no 11 0) ∷
    by "A" "/~\n~" (no 11 0) ∷
    by "A" "DEUTDEFF" (ok Field50C none "DEUTDEFF" [] ":50C:DEUTDEFF") ∷
    by "A" "DEUTDEFF500" (ok Field50C none "DEUTDEFF500" [] ":50C:DEUTDEFF500") ∷
    by "A" "uBswChz0" (ok Field50C none "uBswChz0" [] ":50C:uBswChz0") ∷
    by "A" "AB" (ok Field50L (some "AB") "" [] ":50L:AB") ∷
    by "A" "PARTY 4711" (ok Field50L (some "PARTY 4711") "" [] ":50L:PARTY 4711") ∷
    by "A" "/1234567890" (ok Field50L (some "/1234567890") "" [] ":50L:/1234567890") ∷
    by "a" "ABCDEFGH" (ok Field50C none "ABCDEFGH" [] ":50C:ABCDEFGH") ∷
    by "c" "ABCDEFGH" (ok Field50C none "ABCDEFGH" [] ":50C:ABCDEFGH") ∷
    by "f" "ABCDEFGH" (ok Field50C none "ABCDEFGH" [] ":50C:ABCDEFGH") ∷
    by "z" "ABCDEFGH" (ok Field50C none "ABCDEFGH" [] ":50C:ABCDEFGH") ∷
    by "0" "ABCDEFGH" (ok Field50C none "ABCDEFGH" [] ":50C:ABCDEFGH") ∷
    by "5" "ABCDEFGH" (ok Field50C none "ABCDEFGH" [] ":50C:ABCDEFGH") ∷
    by "9" "ABCDEFGH" (ok Field50C none "ABCDEFGH" [] ":50C:ABCDEFGH") ∷
    by "\u{1}" "ABCDEFGH" (ok Field50C none "ABCDEFGH" [] ":50C:ABCDEFGH") ∷
    by "\t" "ABCDEFGH" (ok Field50C none "ABCDEFGH" [] ":50C:ABCDEFGH") ∷
    by "\n" "ABCDEFGH" (ok Field50C none "ABCDEFGH" [] ":50C:ABCDEFGH") ∷
    by " " "ABCDEFGH" (ok Field50C none "ABCDEFGH" [] ":50C:ABCDEFGH") ∷
    by "/" "ABCDEFGH" (ok Field50C none "ABCDEFGH" [] ":50C:ABCDEFGH") ∷
    by ":" "ABCDEFGH" (ok Field50C none "ABCDEFGH" [] ":50C:ABCDEFGH") ∷
    by "@" "ABCDEFGH" (ok Field50C none "ABCDEFGH" [] ":50C:ABCDEFGH") ∷
    by "[" "ABCDEFGH" (ok Field50C none "ABCDEFGH" [] ":50C:ABCDEFGH") ∷
    by "`" "ABCDEFGH" (ok Field50C none "ABCDEFGH" [] ":50C:ABCDEFGH") ∷
    by "{" "ABCDEFGH" (ok Field50C none "ABCDEFGH" [] ":50C:ABCDEFGH") ∷
    by "~" "ABCDEFGH" (ok Field50C none "ABCDEFGH" [] ":50C:ABCDEFGH") ∷
    by "\u{7f}" "ABCDEFGH" (ok Field50C none "ABCDEFGH" [] ":50C:ABCDEFGH") ∷
    parse " " (no 11 0) ∷
    parse "\t\r\n" (no 11 0) ∷
    parse "\n\u{b}\u{c}  " (no 11 0) ∷
    parse "A" (ok Field50L (some "A") "" [] ":50L:A") ∷
    parse " A" (ok Field50L (some "A") "" [] ":50L:A") ∷
    parse "A\t\r\n" (ok Field50L (some "A") "" [] ":50L:A") ∷
    parse "\n\u{b}\u{c}A  " (ok Field50L (some "A") "" [] ":50L:A") ∷
    parse "ABCDEFG" (ok Field50L (some "ABCDEFG") "" [] ":50L:ABCDEFG") ∷
    parse " ABCDEFG" (ok Field50L (some "ABCDEFG") "" [] ":50L:ABCDEFG") ∷
    parse "ABCDEFG\t\r\n" (ok Field50L (some "ABCDEFG") "" [] ":50L:ABCDEFG") ∷
    parse "\n\u{b}\u{c}ABCDEFG  " (ok Field50L (some "ABCDEFG") "" [] ":50L:ABCDEFG") ∷
    parse " ABCDEFGH" (ok Field50C none "ABCDEFGH" [] ":50C:ABCDEFGH") ∷
    parse "ABCDEFGH\t\r\n" (ok Field50C none "ABCDEFGH" [] ":50C:ABCDEFGH") ∷
    parse "\n\u{b}\u{c}ABCDEFGH  " (ok Field50C none "ABCDEFGH" [] ":50C:ABCDEFGH") ∷
    parse "ABCDEFGHI" (ok Field50L (some "ABCDEFGHI") "" [] ":50L:ABCDEFGHI") ∷
    parse " ABCDEFGHI" (ok Field50L (some "ABCDEFGHI") "" [] ":50L:ABCDEFGHI") ∷
    parse "ABCDEFGHI\t\r\n" (ok Field50L (some "ABCDEFGHI") "" [] ":50L:ABCDEFGHI") ∷
    parse "\n\u{b}\u{c}ABCDEFGHI  " (ok Field50L (some "ABCDEFGHI") "" [] ":50L:ABCDEFGHI") ∷
    parse "ABCDEFGHIJ" (ok Field50L (some "ABCDEFGHIJ") "" [] ":50L:ABCDEFGHIJ") ∷
    parse " ABCDEFGHIJ" (ok Field50L (some "ABCDEFGHIJ") "" [] ":50L:ABCDEFGHIJ") ∷
    parse "ABCDEFGHIJ\t\r\n" (ok Field50L (some "ABCDEFGHIJ") "" [] ":50L:ABCDEFGHIJ") ∷
    parse "\n\u{b}\u{c}ABCDEFGHIJ  " (ok Field50L (some "ABCDEFGHIJ") "" [] ":50L:ABCDEFGHIJ") ∷
    parse "ABCDEFGHIJK" (ok Field50C none "ABCDEFGHIJK" [] ":50C:ABCDEFGHIJK") ∷
    parse " ABCDEFGHIJK" (ok Field50C none "ABCDEFGHIJK" [] ":50C:ABCDEFGHIJK") ∷
    parse "ABCDEFGHIJK\t\r\n" (ok Field50C none "ABCDEFGHIJK" [] ":50C:ABCDEFGHIJK") ∷
    parse "\n\u{b}\u{c}ABCDEFGHIJK  " (ok Field50C none "ABCDEFGHIJK" [] ":50C:ABCDEFGHIJK") ∷
    parse "ABCDEFGHIJKL" (ok Field50L (some "ABCDEFGHIJKL") "" [] ":50L:ABCDEFGHIJKL") ∷
    parse " ABCDEFGHIJKL" (ok Field50L (some "ABCDEFGHIJKL") "" [] ":50L:ABCDEFGHIJKL") ∷
    parse "ABCDEFGHIJKL\t\r\n" (ok Field50L (some "ABCDEFGHIJKL") "" [] ":50L:ABCDEFGHIJKL") ∷
    parse "\n\u{b}\u{c}ABCDEFGHIJKL  " (ok Field50L (some "ABCDEFGHIJKL") "" [] ":50L:ABCDEFGHIJKL") ∷
    parse " ABCDEFGHIJKLMNOPQRSTUVWXYZ01234567\r\n" (ok Field50L (some "ABCDEFGHIJKLMNOPQRSTUVWXYZ01234567") "" [] ":50L:ABCDEFGHIJKLMNOPQRSTUVWXYZ01234567") ∷
    parse " ABCDEFGHIJKLMNOPQRSTUVWXYZ012345678\r\n" (ok Field50L (some "ABCDEFGHIJKLMNOPQRSTUVWXYZ012345678") "" [] ":50L:ABCDEFGHIJKLMNOPQRSTUVWXYZ012345678") ∷
    parse " ABCDEFGHIJKLMNOPQRSTUVWXYZ0123456789\r\n" (no 11 0) ∷
    parse "\rABCDEFGH" (ok Field50C none "ABCDEFGH" [] ":50C:ABCDEFGH") ∷
    parse "A\rBCDEFGH" (ok Field50L (some "A\rBCDEFGH") "" [] ":50L:A\rBCDEFGH") ∷
    parse "AB\rCDEFGH" (ok Field50L (some "AB\rCDEFGH") "" [] ":50L:AB\rCDEFGH") ∷
    parse "ABC\rDEFGH" (ok Field50L (some "ABC\rDEFGH") "" [] ":50L:ABC\rDEFGH") ∷
    parse "ABCD\rEFGH" (ok Field50L (some "ABCD\rEFGH") "" [] ":50L:ABCD\rEFGH") ∷
    parse "ABCDE\rFGH" (ok Field50L (some "ABCDE\rFGH") "" [] ":50L:ABCDE\rFGH") ∷
    parse "ABCDEF\rGH" (ok Field50L (some "ABCDEF\rGH") "" [] ":50L:ABCDEF\rGH") ∷
    parse "ABCDEFG\rH" (ok Field50L (some "ABCDEFG\rH") "" [] ":50L:ABCDEFG\rH") ∷
    parse "ABCDEFGH\r" (ok Field50C none "ABCDEFGH" [] ":50C:ABCDEFGH") ∷
    parse "\nABCDEFGH" (ok Field50C none "ABCDEFGH" [] ":50C:ABCDEFGH") ∷
    parse "A\nBCDEFGH" (no 11 0) ∷
    parse "AB\nCDEFGH" (no 11 0) ∷
    parse "ABC\nDEFGH" (no 11 0) ∷
    parse "ABCD\nEFGH" (no 11 0) ∷
    parse "ABCDE\nFGH" (no 11 0) ∷
    parse "ABCDEF\nGH" (no 11 0) ∷
    parse "ABCDEFG\nH" (no 11 0) ∷
    parse "ABCDEFGH\n" (ok Field50C none "ABCDEFGH" [] ":50C:ABCDEFGH") ∷
    parse "\r\nABCDEFGH" (ok Field50C none "ABCDEFGH" [] ":50C:ABCDEFGH") ∷
    parse "A\r\nBCDEFGH" (no 11 0) ∷
    parse "AB\r\nCDEFGH" (no 11 0) ∷
    parse "ABC\r\nDEFGH" (no 11 0) ∷
    parse "ABCD\r\nEFGH" (no 11 0) ∷
    parse "ABCDE\r\nFGH" (no 11 0) ∷
    parse "ABCDEF\r\nGH" (no 11 0) ∷
    parse "ABCDEFG\r\nH" (no 11 0) ∷
    parse "ABCDEFGH\r\n" (ok Field50C none "ABCDEFGH" [] ":50C:ABCDEFGH") ∷
    parse "\rBCDEFGH" (ok Field50L (some "BCDEFGH") "" [] ":50L:BCDEFGH") ∷
    parse "A\rCDEFGH" (ok Field50L (some "A\rCDEFGH") "" [] ":50L:A\rCDEFGH") ∷
    parse "AB\rDEFGH" (ok Field50L (some "AB\rDEFGH") "" [] ":50L:AB\rDEFGH") ∷
    parse "ABC\rEFGH" (ok Field50L (some "ABC\rEFGH") "" [] ":50L:ABC\rEFGH") ∷
    parse "ABCD\rFGH" (ok Field50L (some "ABCD\rFGH") "" [] ":50L:ABCD\rFGH") ∷
    parse "ABCDE\rGH" (ok Field50L (some "ABCDE\rGH") "" [] ":50L:ABCDE\rGH") ∷
    parse "ABCDEF\rH" (ok Field50L (some "ABCDEF\rH") "" [] ":50L:ABCDEF\rH") ∷
    parse "ABCDEFG\r" (ok Field50L (some "ABCDEFG") "" [] ":50L:ABCDEFG") ∷
    parse "\nBCDEFGH" (ok Field50L (some "BCDEFGH") "" [] ":50L:BCDEFGH") ∷
    parse "A\nCDEFGH" (no 11 0) ∷
    parse "AB\nDEFGH" (no 11 0) ∷
    parse "ABC\nEFGH" (no 11 0) ∷
    parse "ABCD\nFGH" (no 11 0) ∷
    parse "ABCDE\nGH" (no 11 0) ∷
    parse "ABCDEF\nH" (no 11 0) ∷
    parse "ABCDEFG\n" (ok Field50L (some "ABCDEFG") "" [] ":50L:ABCDEFG") ∷
    parse "\rAB" (ok Field50L (some "AB") "" [] ":50L:AB") ∷
    parse "A\rB" (ok Field50L (some "A\rB") "" [] ":50L:A\rB") ∷
    parse "AB\r" (ok Field50L (some "AB") "" [] ":50L:AB") ∷
    parse "\nAB" (ok Field50L (some "AB") "" [] ":50L:AB") ∷
    parse "A\nB" (no 11 0) ∷
    parse "AB\n" (ok Field50L (some "AB") "" [] ":50L:AB") ∷
    parse "\r\nAB" (ok Field50L (some "AB") "" [] ":50L:AB") ∷
    parse "A\r\nB" (no 11 0) ∷
    parse "AB\r\n" (ok Field50L (some "AB") "" [] ":50L:AB") ∷
    parse "\rB" (ok Field50L (some "B") "" [] ":50L:B") ∷
    parse "A\r" (ok Field50L (some "A") "" [] ":50L:A") ∷
    parse "\nB" (ok Field50L (some "B") "" [] ":50L:B") ∷
    parse "A\n" (ok Field50L (some "A") "" [] ":50L:A") ∷
    parse "\0ABCDEFGH" (no 11 0) ∷
    parse "\u{1}ABCDEFGH" (no 11 0) ∷
    parse "\u{2}ABCDEFGH" (no 11 0) ∷
    parse "\u{3}ABCDEFGH" (no 11 0) ∷
    parse "\u{4}ABCDEFGH" (no 11 0) ∷
    parse "\u{5}ABCDEFGH" (no 11 0) ∷
    parse "\u{6}ABCDEFGH" (no 11 0) ∷
    parse "\u{7}ABCDEFGH" (no 11 0) ∷
    parse "\u{8}ABCDEFGH" (no 11 0) ∷
    parse "\tABCDEFGH" (ok Field50C none "ABCDEFGH" [] ":50C:ABCDEFGH") ∷
    parse "\u{b}ABCDEFGH" (ok Field50C none "ABCDEFGH" [] ":50C:ABCDEFGH") ∷
    parse "\u{c}ABCDEFGH" (ok Field50C none "ABCDEFGH" [] ":50C:ABCDEFGH") ∷
    parse "\u{e}ABCDEFGH" (no 11 0) ∷
    parse "\u{f}ABCDEFGH" (no 11 0) ∷
    parse "\u{10}ABCDEFGH" (no 11 0) ∷
    parse "\u{11}ABCDEFGH" (no 11 0) ∷
    parse "\u{12}ABCDEFGH" (no 11 0) ∷
    parse "\u{13}ABCDEFGH" (no 11 0) ∷
    parse "\u{14}ABCDEFGH" (no 11 0) ∷
    parse "\u{15}ABCDEFGH" (no 11 0) ∷
    parse "\u{16}ABCDEFGH" (no 11 0) ∷
    parse "\u{17}ABCDEFGH" (no 11 0) ∷
    parse "\u{18}ABCDEFGH" (no 11 0) ∷
    parse "\u{19}ABCDEFGH" (no 11 0) ∷
    parse "\u{1a}ABCDEFGH" (no 11 0) ∷
    parse "\u{1b}ABCDEFGH" (no 11 0) ∷
    parse "\u{1c}ABCDEFGH" (no 11 0) ∷
    parse "\u{1d}ABCDEFGH" (no 11 0) ∷
    parse "\u{1e}ABCDEFGH" (no 11 0) ∷
    parse "\u{1f}ABCDEFGH" (no 11 0) ∷
    parse "!ABCDEFGH" (ok Field50L (some "!ABCDEFGH") "" [] ":50L:!ABCDEFGH") ∷
    parse "\"ABCDEFGH" (ok Field50L (some "\"ABCDEFGH") "" [] ":50L:\"ABCDEFGH") ∷
    parse "#ABCDEFGH" (ok Field50L (some "#ABCDEFGH") "" [] ":50L:#ABCDEFGH") ∷
    parse "$ABCDEFGH" (ok Field50L (some "$ABCDEFGH") "" [] ":50L:$ABCDEFGH") ∷
    parse "%ABCDEFGH" (ok Field50L (some "%ABCDEFGH") "" [] ":50L:%ABCDEFGH") ∷
    parse "&ABCDEFGH" (ok Field50L (some "&ABCDEFGH") "" [] ":50L:&ABCDEFGH") ∷
    parse "'ABCDEFGH" (ok Field50L (some "'ABCDEFGH") "" [] ":50L:'ABCDEFGH") ∷
    parse "(ABCDEFGH" (ok Field50L (some "(ABCDEFGH") "" [] ":50L:(ABCDEFGH") ∷
    parse ")ABCDEFGH" (ok Field50L (some ")ABCDEFGH") "" [] ":50L:)ABCDEFGH") ∷
    parse "*ABCDEFGH" (ok Field50L (some "*ABCDEFGH") "" [] ":50L:*ABCDEFGH") ∷
    parse "+ABCDEFGH" (ok Field50L (some "+ABCDEFGH") "" [] ":50L:+ABCDEFGH") ∷
    parse ",ABCDEFGH" (ok Field50L (some ",ABCDEFGH") "" [] ":50L:,ABCDEFGH") ∷
    parse "-ABCDEFGH" (ok Field50L (some "-ABCDEFGH") "" [] ":50L:-ABCDEFGH") ∷
    parse ".ABCDEFGH" (ok Field50L (some ".ABCDEFGH") "" [] ":50L:.ABCDEFGH") ∷
    parse "/ABCDEFGH" (ok Field50L (some "/ABCDEFGH") "" [] ":50L:/ABCDEFGH") ∷
    parse "0ABCDEFGH" (ok Field50L (some "0ABCDEFGH") "" [] ":50L:0ABCDEFGH") ∷
    parse "1ABCDEFGH" (ok Field50L (some "1ABCDEFGH") "" [] ":50L:1ABCDEFGH") ∷
    parse "2ABCDEFGH" (ok Field50L (some "2ABCDEFGH") "" [] ":50L:2ABCDEFGH") ∷
    parse "3ABCDEFGH" (ok Field50L (some "3ABCDEFGH") "" [] ":50L:3ABCDEFGH") ∷
    parse "4ABCDEFGH" (ok Field50L (some "4ABCDEFGH") "" [] ":50L:4ABCDEFGH") ∷
    parse "5ABCDEFGH" (ok Field50L (some "5ABCDEFGH") "" [] ":50L:5ABCDEFGH") ∷
    parse "6ABCDEFGH" (ok Field50L (some "6ABCDEFGH") "" [] ":50L:6ABCDEFGH") ∷
    parse "7ABCDEFGH" (ok Field50L (some "7ABCDEFGH") "" [] ":50L:7ABCDEFGH") ∷
    parse "8ABCDEFGH" (ok Field50L (some "8ABCDEFGH") "" [] ":50L:8ABCDEFGH") ∷
    parse "9ABCDEFGH" (ok Field50L (some "9ABCDEFGH") "" [] ":50L:9ABCDEFGH") ∷
    parse ":ABCDEFGH" (ok Field50L (some ":ABCDEFGH") "" [] ":50L::ABCDEFGH") ∷
    parse ";ABCDEFGH" (ok Field50L (some ";ABCDEFGH") "" [] ":50L:;ABCDEFGH") ∷
    parse "<ABCDEFGH" (ok Field50L (some "<ABCDEFGH") "" [] ":50L:<ABCDEFGH") ∷
    parse "=ABCDEFGH" (ok Field50L (some "=ABCDEFGH") "" [] ":50L:=ABCDEFGH") ∷
    parse ">ABCDEFGH" (ok Field50L (some ">ABCDEFGH") "" [] ":50L:>ABCDEFGH") ∷
    parse "?ABCDEFGH" (ok Field50L (some "?ABCDEFGH") "" [] ":50L:?ABCDEFGH") ∷
    parse "@ABCDEFGH" (ok Field50L (some "@ABCDEFGH") "" [] ":50L:@ABCDEFGH") ∷
    parse "AABCDEFGH" (ok Field50L (some "AABCDEFGH") "" [] ":50L:AABCDEFGH") ∷
    parse "BABCDEFGH" (ok Field50L (some "BABCDEFGH") "" [] ":50L:BABCDEFGH") ∷
    parse "CABCDEFGH" (ok Field50L (some "CABCDEFGH") "" [] ":50L:CABCDEFGH") ∷
    parse "DABCDEFGH" (ok Field50L (some "DABCDEFGH") "" [] ":50L:DABCDEFGH") ∷
    parse "EABCDEFGH" (ok Field50L (some "EABCDEFGH") "" [] ":50L:EABCDEFGH") ∷
    parse "FABCDEFGH" (ok Field50L (some "FABCDEFGH") "" [] ":50L:FABCDEFGH") ∷
    parse "GABCDEFGH" (ok Field50L (some "GABCDEFGH") "" [] ":50L:GABCDEFGH") ∷
    parse "HABCDEFGH" (ok Field50L (some "HABCDEFGH") "" [] ":50L:HABCDEFGH") ∷
    parse "IABCDEFGH" (ok Field50L (some "IABCDEFGH") "" [] ":50L:IABCDEFGH") ∷
    parse "JABCDEFGH" (ok Field50L (some "JABCDEFGH") "" [] ":50L:JABCDEFGH") ∷
    parse "KABCDEFGH" (ok Field50L (some "KABCDEFGH") "" [] ":50L:KABCDEFGH") ∷
    parse "LABCDEFGH" (ok Field50L (some "LABCDEFGH") "" [] ":50L:LABCDEFGH") ∷
    parse "MABCDEFGH" (ok Field50L (some "MABCDEFGH") "" [] ":50L:MABCDEFGH") ∷
    parse "NABCDEFGH" (ok Field50L (some "NABCDEFGH") "" [] ":50L:NABCDEFGH") ∷
    parse "OABCDEFGH" (ok Field50L (some "OABCDEFGH") "" [] ":50L:OABCDEFGH") ∷
    parse "PABCDEFGH" (ok Field50L (some "PABCDEFGH") "" [] ":50L:PABCDEFGH") ∷
    parse "QABCDEFGH" (ok Field50L (some "QABCDEFGH") "" [] ":50L:QABCDEFGH") ∷
    parse "RABCDEFGH" (ok Field50L (some "RABCDEFGH") "" [] ":50L:RABCDEFGH") ∷
    parse "SABCDEFGH" (ok Field50L (some "SABCDEFGH") "" [] ":50L:SABCDEFGH") ∷
    parse "TABCDEFGH" (ok Field50L (some "TABCDEFGH") "" [] ":50L:TABCDEFGH") ∷
    parse "UABCDEFGH" (ok Field50L (some "UABCDEFGH") "" [] ":50L:UABCDEFGH") ∷
    parse "VABCDEFGH" (ok Field50L (some "VABCDEFGH") "" [] ":50L:VABCDEFGH") ∷
    parse "WABCDEFGH" (ok Field50L (some "WABCDEFGH") "" [] ":50L:WABCDEFGH") ∷
    parse "XABCDEFGH" (ok Field50L (some "XABCDEFGH") "" [] ":50L:XABCDEFGH") ∷
    parse "YABCDEFGH" (ok Field50L (some "YABCDEFGH") "" [] ":50L:YABCDEFGH") ∷
    parse "ZABCDEFGH" (ok Field50L (some "ZABCDEFGH") "" [] ":50L:ZABCDEFGH") ∷
    parse "[ABCDEFGH" (ok Field50L (some "[ABCDEFGH") "" [] ":50L:[ABCDEFGH") ∷
    parse "\\ABCDEFGH" (no 11 0) ∷
    parse "]ABCDEFGH" (ok Field50L (some "]ABCDEFGH") "" [] ":50L:]ABCDEFGH") ∷
    parse "^ABCDEFGH" (no 11 0) ∷
    parse "_ABCDEFGH" (ok Field50L (some "_ABCDEFGH") "" [] ":50L:_ABCDEFGH") ∷
    parse "`ABCDEFGH" (no 11 0) ∷
    parse "aABCDEFGH" (ok Field50L (some "aABCDEFGH") "" [] ":50L:aABCDEFGH") ∷
    parse "bABCDEFGH" (ok Field50L (some "bABCDEFGH") "" [] ":50L:bABCDEFGH") ∷
    parse "cABCDEFGH" (ok Field50L (some "cABCDEFGH") "" [] ":50L:cABCDEFGH") ∷
    parse "dABCDEFGH" (ok Field50L (some "dABCDEFGH") "" [] ":50L:dABCDEFGH") ∷
    parse "eABCDEFGH" (ok Field50L (some "eABCDEFGH") "" [] ":50L:eABCDEFGH") ∷
    parse "fABCDEFGH" (ok Field50L (some "fABCDEFGH") "" [] ":50L:fABCDEFGH") ∷
    parse "gABCDEFGH" (ok Field50L (some "gABCDEFGH") "" [] ":50L:gABCDEFGH") ∷
    parse "hABCDEFGH" (ok Field50L (some "hABCDEFGH") "" [] ":50L:hABCDEFGH") ∷
    parse "iABCDEFGH" (ok Field50L (some "iABCDEFGH") "" [] ":50L:iABCDEFGH") ∷
    parse "jABCDEFGH" (ok Field50L (some "jABCDEFGH") "" [] ":50L:jABCDEFGH") ∷
    parse "kABCDEFGH" (ok Field50L (some "kABCDEFGH") "" [] ":50L:kABCDEFGH") ∷
    parse "lABCDEFGH" (ok Field50L (some "lABCDEFGH") "" [] ":50L:lABCDEFGH") ∷
    parse "mABCDEFGH" (ok Field50L (some "mABCDEFGH") "" [] ":50L:mABCDEFGH") ∷
    parse "nABCDEFGH" (ok Field50L (some "nABCDEFGH") "" [] ":50L:nABCDEFGH") ∷
    parse "oABCDEFGH" (ok Field50L (some "oABCDEFGH") "" [] ":50L:oABCDEFGH") ∷
    parse "pABCDEFGH" (ok Field50L (some "pABCDEFGH") "" [] ":50L:pABCDEFGH") ∷
    parse "qABCDEFGH" (ok Field50L (some "qABCDEFGH") "" [] ":50L:qABCDEFGH") ∷
    parse "rABCDEFGH" (ok Field50L (some "rABCDEFGH") "" [] ":50L:rABCDEFGH") ∷
    parse "sABCDEFGH" (ok Field50L (some "sABCDEFGH") "" [] ":50L:sABCDEFGH") ∷
    parse "tABCDEFGH" (ok Field50L (some "tABCDEFGH") "" [] ":50L:tABCDEFGH") ∷
    parse "uABCDEFGH" (ok Field50L (some "uABCDEFGH") "" [] ":50L:uABCDEFGH") ∷
    parse "vABCDEFGH" (ok Field50L (some "vABCDEFGH") "" [] ":50L:vABCDEFGH") ∷
    parse "wABCDEFGH" (ok Field50L (some "wABCDEFGH") "" [] ":50L:wABCDEFGH") ∷
    parse "xABCDEFGH" (ok Field50L (some "xABCDEFGH") "" [] ":50L:xABCDEFGH") ∷
    parse "yABCDEFGH" (ok Field50L (some "yABCDEFGH") "" [] ":50L:yABCDEFGH") ∷
    parse "zABCDEFGH" (ok Field50L (some "zABCDEFGH") "" [] ":50L:zABCDEFGH") ∷
    parse "{ABCDEFGH" (ok Field50L (some "{ABCDEFGH") "" [] ":50L:{ABCDEFGH") ∷
    parse "|ABCDEFGH" (ok Field50L (some "|ABCDEFGH") "" [] ":50L:|ABCDEFGH") ∷
    parse "}ABCDEFGH" (ok Field50L (some "}ABCDEFGH") "" [] ":50L:}ABCDEFGH") ∷
    parse "~ABCDEFGH" (no 11 0) ∷
    parse "\u{7f}ABCDEFGH" (no 11 0) ∷
    parse "A                                                                                                                                                                                                                                                                                                                                                                                                                                                                                                                                                                                                                                                                                                                                                                                                                                                                                                                                                                                                                                                                                                                                                                                                                                                                                                                                                                                                                                                                                                                                                                                                                                                                                                                                                                                                                                                                                                                                                                                                                                                                                                                               " (ok Field50L (some "A") "" [] ":50L:A") ∷
    by "K" "/ABCDEFGHIJKLMNOPQRSTUVWXYZ012345678\n/X\r\n2/-'8%\nY!b,>x\r\nABCDEFGH\nDEUTDEFF500\r" (no 11 0) ∷
    by "L" "A\u{7f}CdEf12" (no 3 1) ∷
    by "Y" "0/ \"\r9/ABCDEFGHIJKLMNOPQRSTUVWXYZ0123456\r2/+\r\n//a\n4/ABCDEFGHIJKLMNOPQRSTUVWXYZ012345\n/8Z\rABCDEF123AZ" (no 11 0) ∷
    without "/]A8/>;a(y?\n/< " (no 11 0) ∷
    by "C" "AbCbCd/Ef12" (no 10 1) ∷
    by "Z" "AB\rDEF9GH" (ok Field50L (some "AB\rDEF9GH") "" [] ":50L:AB\rDEF9GH") ∷
    by "G" "AbCdE\\f1:dE\\f1:" (no 11 0) ∷
    by "Y" "" (no 11 0) ∷
    by "C" "UBSWCHZ0" (ok Field50C none "UBSWCHZ0" [] ":50C:UBSWCHZ0") ∷
    by "H" "\rABCDE-FGHIJKLMNO0QRSTUVWXYZ0123456789" (no 11 0) ∷
    by "C" "ABCDEFGHI" (no 9 1) ∷
    without "AABC DEFGHIJKLMNO/QRSTUVWXYZ012345VWXYZ01234567" (no 11 0) ∷
    by "L" "AB\tCDEFGH" (no 3 1) ∷
    without "<\n1/{C!>*y\r8/8,\rABCDEFGHIJKL\r\n/']yB\n5/% " (no 11 0) ∷
    by "L" "ABCDEF123AZ" (ok Field50L (some "ABCDEF123AZ") "" [] ":50L:ABCDEF123AZ") ∷
    parse "ABCDEFGI-KLMNOPQRSTUVWXYZ01234567" (ok Field50L (some "ABCDEFGI-KLMNOPQRSTUVWXYZ01234567") "" [] ":50L:ABCDEFGI-KLMNOPQRSTUVWXYZ01234567") ∷
    by "G" "DEUTDEFF500" (ok Field50C none "DEUTDEFF500" [] ":50C:DEUTDEFF500") ∷
    by "C" "deutdef/" (no 10 1) ∷
    parse "/Z?@Z[\"\n//+%?[#\r2/%cx\n/y\"Z#$#\n4/%1\nABCDEFGHIJKLMNOPQRSTUVWXYZ012345678" (no 11 0) ∷
    by "C" "AABCDEFGHIJKLMNOPQRSTUVWXYZ01234567" (no 9 1) ∷
    by "L" "A_a_,z" (ok Field50L (some "A_a_,z") "" [] ":50L:A_a_,z") ∷
    without "/A0!y/xz;\nDEUTDEFF500\n2/_" (no 11 0) ∷
    parse "U'SWC\0HZ0'SWC\0HZ0" (no 11 0) ∷
    by "C" "ABCDEFGHIJKLMNOPQRSTUVWXYZ01234567" (no 9 1) ∷
    by "Z" "PARTY 4711" (ok Field50L (some "PARTY 4711") "" [] ":50L:PARTY 4711") ∷
    by "C" "b;\n/\n/ABCDEFGHIJKLMNOPQRSTUVWXYZ01234567\r/[C@\n//ABCDEFGHIJKLMNOPQRSTUVWXYZ012345678\nABCDEFGHIJKLMNOPQRSTUVWXYZ0123456789\n" (no 9 1) ∷
    without "AAX" (ok Field50L (some "AAX") "" [] ":50L:AAX") ∷
    parse "deutdeff" (ok Field50C none "deutdeff" [] ":50C:deutdeff") ∷
    by "C" "UBSWCHb^Z0" (no 9 1) ∷
    without "UBSWCHZ~C" (no 11 0) ∷
    by "Y" "0/0*10_C\n/[+*'\r\n DEUTDEFF500\n\r.%Y-" (no 11 0) ∷
    by "C" "//9:/ABCDEFGHIJKLMNOPQRSTUVWXYZ012345678\n/(!,!\n5/ABCDEFGHIJKLMNOPQRSTUVWXYZ0123456\r/(*#0\r//c\r\n//-b[a\n]" (no 9 1) ∷
    without "/12345678934567890" (ok Field50L (some "/12345678934567890") "" [] ":50L:/12345678934567890") ∷
    by "H" "/123567890\r" (ok Field50L (some "/123567890") "" [] ":50L:/123567890") ∷
    by "B" "\r1/!z&|Z{\r\nXa\r/CZ\r\nABCDEFGHIJKLMNOPQRSTUVWXYZ0123456789" (no 11 0) ∷
    by "Y" "AABCDEFGHIJKLMNOPQRSTUVWXYZ01234567" (ok Field50L (some "AABCDEFGHIJKLMNOPQRSTUVWXYZ01234567") "" [] ":50L:AABCDEFGHIJKLMNOPQRSTUVWXYZ01234567") ∷
    by "B" "0/+!,\r\n ABCDEFGH" (no 11 0) ∷
    by "Y" ":" (ok Field50L (some ":") "" [] ":50L::") ∷
    by "L" "PARTY 47111" (ok Field50L (some "PARTY 47111") "" [] ":50L:PARTY 47111") ∷
    parse "0/%_]\n//>=\"}b\n//_{1/(b\r\n AbCdEf12\n/?1\r\n" (no 11 0) ∷
    parse "\nABCDEF123AZ\nUBSWCHZ0\n/\r\nAbCdEf12\n5/ABCDEFGHIJKLMNOPQRSTUVWXYZ0123456 " (no 11 0) ∷
    without "UBSWCHZ0" (ok Field50C none "UBSWCHZ0" [] ":50C:UBSWCHZ0") ∷
    without "ABCDEFGH\nABCDEFGHIJ" (no 11 0) ∷
    by "L" "/ABCDEFGHIJKLMNOPQRSTUVWXYZ012345678\r" (no 2 1) ∷
    by "L" "ABCDEFGHIJKLMNOPQRSTUVWXYZ012345678\r\n//ABCDEFGHIJKLMNOPQRSTUVWXYZ012345678" (no 1 0) ∷
    parse "0/8!x\n\r\n/ CY/-\r\n\r\n" (no 11 0) ∷
    without " deutdeff\nABCDEFGHI\n7/YX]?=.\n" (no 11 0) ∷
    by "Y" "/}/\n*_\r deutdeff\r\n\n/)\r\n" (no 11 0) ∷
    parse "Pdeutde-" (ok Field50L (some "Pdeutde-") "" [] ":50L:Pdeutde-") ∷
    parse "ABCDEFGH\n-\r\n" (no 11 0) ∷
    without "DEU0\nDEF\t" (no 11 0) ∷
    by "A" "ABCDEFGHIJ\n\n6/\n\n" (no 11 0) ∷
    without "//.'baZ\r UBSWCHZ0 " (ok Field50L (some "//.'baZ\r UBSWCHZ0") "" [] ":50L://.'baZ\r UBSWCHZ0") ∷
    by "C" "'" (no 9 1) ∷
    by "L" "A:A?\n" (no 1 0) ∷
    by "L" "AABCDEFGHIJKLMNOPQRSTUVWXYZ1234/67" (ok Field50L (some "AABCDEFGHIJKLMNOPQRSTUVWXYZ1234/67") "" [] ":50L:AABCDEFGHIJKLMNOPQRSTUVWXYZ1234/67") ∷
    by "Z" " UBSWCHZ0\nABCDEFGHIJKL" (no 11 0) ∷
    by "K" "\n1/=:@|Y(\n9/=0" (no 11 0) ∷
    by "C" "/;/'b_\n/ABCDEFGHIJKLMNOPQRSTUVWXYZ01234567\r2/," (no 9 1) ∷
    by "G" " UBSWCHZ0\n" (ok Field50C none "UBSWCHZ0" [] ":50C:UBSWCHZ0") ∷
    by "L" "Y((\n AbCdEf12" (no 1 0) ∷
    by "L" "///>A\"\n1/.\n\n" (no 1 0) ∷
    parse "ABCE:FGHIJKLMNOPQRS-TUVWXYZ0123456789" (no 11 0) ∷
    parse "8/@?.*8\n" (ok Field50L (some "8/@?.*8") "" [] ":50L:8/@?.*8") ∷
    by "L" "AB\rDEFGHIJKLMNOP\0R\u{1c}STUVWXYZ012345678" (no 2 1) ∷
    []

-- Made of crates/replay/stdin by tests/rust/listed: the cases of Field50OrderingCustomerNCF.
use Rattle.std.specs.Prelude.{List, [], ◌∷◌}
use Rattle.std.proofs.Math.Option.{none, some}
use Rattle.party.specs.declared.PartyOption.TheVariants.{Field50NoOption, Field50F, Field50C}
use Rattle.swift_mt_message.specs.Cases.{Case, parse, without, by, ok, no}

abbrev pub cases : List Case
cases =
    parse "ABCDEFGH\n" (ok Field50NoOption none "" ("ABCDEFGH" ∷ []) ":50:ABCDEFGH") ∷
    parse "ABCDEFGH" (ok Field50C none "ABCDEFGH" [] ":50C:ABCDEFGH") ∷
    by "C" "ABCDEFG" (no 9 1) ∷
    by "C" "1BCDEFGH" (no 10 1) ∷
    by "F" "" (no 1 0) ∷
    by "F" "\n1/A" (no 2 1) ∷
    by "F" "~\n1/A\n~" (no 3 1) ∷
    by "F" "X\n3/~\n~" (no 3 2) ∷
    by "F" "X\n2/A\n3/~\n~" (no 3 3) ∷
    by "F" "X\n2/A\n3/A\n3/~\n~" (no 3 4) ∷
    by "F" "X\n2/A\n3/A\n4/A\n3/~\n~" (no 3 5) ∷
    by "F" "X\n2/A\n3/A\n4/A\n5/A\n3/~\n~" (no 3 6) ∷
    by "F" "X\n2/A\n3/A\n4/A\n5/A\n6/A\n3/~\n~" (no 3 7) ∷
    by "F" "X\n2/A\n3/A\n4/A\n5/A\n6/A\n7/A\n3/~\n~" (no 3 8) ∷
    by "F" "X\n2/A\n3/A\n4/A\n5/A\n6/A\n7/A\n8/A\n3/~\n~" (no 3 9) ∷
    by "F" "X\n2/A\n3/A\n4/A\n5/A\n6/A\n7/A\n8/A\n9/A\n3/~\n~" (no 3 10) ∷
    by "F" "X\n2/A\n3/A\n4/A\n5/A\n6/A\n7/A\n8/A\n9/A\n0/A\n3/~\n~" (no 3 11) ∷
    by "F" "X\n2/A\n3/A\n4/A\n5/A\n6/A\n7/A\n8/A\n9/A\n0/A\n1/A\n2/A\n3/A\n4/A\n5/A\n6/A\n7/A\n8/A\n9/A\n0/A\n1/A\n2/A\n3/A\n4/A\n5/A\n6/A\n7/A\n8/A\n9/A\n0/A\n1/A\n2/A\n3/A\n4/A\n5/A\n6/A\n7/A\n8/A\n9/A\n3/~\n~" (no 3 40) ∷
    by "F" "X\n3/ABCDEFGHIJKLMNOPQRSTUVWXYZ01234567\n~" (no 4 2) ∷
    by "F" "X\n2/A\n3/ABCDEFGHIJKLMNOPQRSTUVWXYZ01234567\n~" (no 4 3) ∷
    by "F" "X\n2/A\n3/A\n3/ABCDEFGHIJKLMNOPQRSTUVWXYZ01234567\n~" (no 4 4) ∷
    by "F" "X\n2/A\n3/A\n4/A\n3/ABCDEFGHIJKLMNOPQRSTUVWXYZ01234567\n~" (no 4 5) ∷
    by "F" "X\n2/A\n3/A\n4/A\n5/A\n3/ABCDEFGHIJKLMNOPQRSTUVWXYZ01234567\n~" (no 4 6) ∷
    by "F" "X\n2/A\n3/A\n4/A\n5/A\n6/A\n3/ABCDEFGHIJKLMNOPQRSTUVWXYZ01234567\n~" (no 4 7) ∷
    by "F" "X\n2/A\n3/A\n4/A\n5/A\n6/A\n7/A\n3/ABCDEFGHIJKLMNOPQRSTUVWXYZ01234567\n~" (no 4 8) ∷
    by "F" "X\n2/A\n3/A\n4/A\n5/A\n6/A\n7/A\n8/A\n3/ABCDEFGHIJKLMNOPQRSTUVWXYZ01234567\n~" (no 4 9) ∷
    by "F" "X\n2/A\n3/A\n4/A\n5/A\n6/A\n7/A\n8/A\n9/A\n3/ABCDEFGHIJKLMNOPQRSTUVWXYZ01234567\n~" (no 4 10) ∷
    by "F" "X\n2/A\n3/A\n4/A\n5/A\n6/A\n7/A\n8/A\n9/A\n0/A\n3/ABCDEFGHIJKLMNOPQRSTUVWXYZ01234567\n~" (no 4 11) ∷
    by "F" "X\n2/A\n3/A\n4/A\n5/A\n6/A\n7/A\n8/A\n9/A\n0/A\n1/A\n2/A\n3/A\n4/A\n5/A\n6/A\n7/A\n8/A\n9/A\n0/A\n1/A\n2/A\n3/A\n4/A\n5/A\n6/A\n7/A\n8/A\n9/A\n0/A\n1/A\n2/A\n3/A\n4/A\n5/A\n6/A\n7/A\n8/A\n9/A\n3/ABCDEFGHIJKLMNOPQRSTUVWXYZ01234567\n~" (no 4 40) ∷
    by "F" "X\nA\n~" (no 5 2) ∷
    by "F" "X\n2/A\nA\n~" (no 5 3) ∷
    by "F" "X\n2/A\n3/A\nA\n~" (no 5 4) ∷
    by "F" "X\n2/A\n3/A\n4/A\nA\n~" (no 5 5) ∷
    by "F" "X\n2/A\n3/A\n4/A\n5/A\nA\n~" (no 5 6) ∷
    by "F" "X\n2/A\n3/A\n4/A\n5/A\n6/A\nA\n~" (no 5 7) ∷
    by "F" "X\n2/A\n3/A\n4/A\n5/A\n6/A\n7/A\nA\n~" (no 5 8) ∷
    by "F" "X\n2/A\n3/A\n4/A\n5/A\n6/A\n7/A\n8/A\nA\n~" (no 5 9) ∷
    by "F" "X\n2/A\n3/A\n4/A\n5/A\n6/A\n7/A\n8/A\n9/A\nA\n~" (no 5 10) ∷
    by "F" "X\n2/A\n3/A\n4/A\n5/A\n6/A\n7/A\n8/A\n9/A\n0/A\nA\n~" (no 5 11) ∷
    by "F" "X\n2/A\n3/A\n4/A\n5/A\n6/A\n7/A\n8/A\n9/A\n0/A\n1/A\n2/A\n3/A\n4/A\n5/A\n6/A\n7/A\n8/A\n9/A\n0/A\n1/A\n2/A\n3/A\n4/A\n5/A\n6/A\n7/A\n8/A\n9/A\n0/A\n1/A\n2/A\n3/A\n4/A\n5/A\n6/A\n7/A\n8/A\n9/A\nA\n~" (no 5 40) ∷
    by "F" "X\n1/A\n2/A\n3/A\n4/A\n5/A" (no 7 0) ∷
    without "" (no 1 0) ∷
    without "~" (no 3 1) ∷
    without "A\n~" (no 3 2) ∷
    without "A\nA\n~" (no 3 3) ∷
    without "A\nA\nA\n~" (no 3 4) ∷
    without "ABCDEFGHIJKLMNOPQRSTUVWXYZ0123456789" (no 4 1) ∷
    without "A\nABCDEFGHIJKLMNOPQRSTUVWXYZ0123456789" (no 4 2) ∷
    without "A\nA\nABCDEFGHIJKLMNOPQRSTUVWXYZ0123456789" (no 4 3) ∷
    without "A\nA\nA\nABCDEFGHIJKLMNOPQRSTUVWXYZ0123456789" (no 4 4) ∷
    parse "" (no 11 0) ∷
    parse "~" (no 11 0) ∷
    parse "/~\n~" (no 11 0) ∷
    parse "DEUTDEFF" (ok Field50C none "DEUTDEFF" [] ":50C:DEUTDEFF") ∷
    parse "DEUTDEFF500" (ok Field50C none "DEUTDEFF500" [] ":50C:DEUTDEFF500") ∷
    parse "uBswChz0" (ok Field50C none "uBswChz0" [] ":50C:uBswChz0") ∷
    parse "X\n1/A" (ok Field50F (some "X") "" ("A" ∷ []) ":50F:X\n1/A") ∷
    parse "/GB82WEST12345698765432\n1/JOHN SMITH\n2/456 AVENUE\n3/GB/LONDON" (ok Field50F (some "/GB82WEST12345698765432") "" ("JOHN SMITH" ∷ "456 AVENUE" ∷ "GB/LONDON" ∷ []) ":50F:/GB82WEST12345698765432\n1/JOHN SMITH\n2/456 AVENUE\n3/GB/LONDON") ∷
    parse "NIDN/DE/121231234342\n1/MANN GEORG\n6/DE/ABC BANK/1234578293" (ok Field50F (some "NIDN/DE/121231234342") "" ("MANN GEORG" ∷ "DE/ABC BANK/1234578293" ∷ []) ":50F:NIDN/DE/121231234342\n1/MANN GEORG\n2/DE/ABC BANK/1234578293") ∷
    parse "A" (ok Field50NoOption none "" ("A" ∷ []) ":50:A") ∷
    parse "ACME LTD\n1 HIGH STREET\nLONDON" (ok Field50NoOption none "" ("ACME LTD" ∷ "1 HIGH STREET" ∷ "LONDON" ∷ []) ":50:ACME LTD\n1 HIGH STREET\nLONDON") ∷
    parse "JOHN DOE\r\nSTREET 5\r\n" (ok Field50NoOption none "" ("JOHN DOE" ∷ "STREET 5" ∷ []) ":50:JOHN DOE\nSTREET 5") ∷
    without "ABCDEFGH" (ok Field50NoOption none "" ("ABCDEFGH" ∷ []) ":50:ABCDEFGH") ∷
    without "/~\n~" (no 3 1) ∷
    without "DEUTDEFF" (ok Field50NoOption none "" ("DEUTDEFF" ∷ []) ":50:DEUTDEFF") ∷
    without "DEUTDEFF500" (ok Field50NoOption none "" ("DEUTDEFF500" ∷ []) ":50:DEUTDEFF500") ∷
    without "uBswChz0" (ok Field50NoOption none "" ("uBswChz0" ∷ []) ":50:uBswChz0") ∷
    without "X\n1/A" (ok Field50NoOption none "" ("X" ∷ "1/A" ∷ []) ":50:X\n1/A") ∷
    without "/GB82WEST12345698765432\n1/JOHN SMITH\n2/456 AVENUE\n3/GB/LONDON" (ok Field50NoOption none "" ("/GB82WEST12345698765432" ∷ "1/JOHN SMITH" ∷ "2/456 AVENUE" ∷ "3/GB/LONDON" ∷ []) ":50:/GB82WEST12345698765432\n1/JOHN SMITH\n2/456 AVENUE\n3/GB/LONDON") ∷
    without "NIDN/DE/121231234342\n1/MANN GEORG\n6/DE/ABC BANK/1234578293" (ok Field50NoOption none "" ("NIDN/DE/121231234342" ∷ "1/MANN GEORG" ∷ "6/DE/ABC BANK/1234578293" ∷ []) ":50:NIDN/DE/121231234342\n1/MANN GEORG\n6/DE/ABC BANK/1234578293") ∷
    without "A" (ok Field50NoOption none "" ("A" ∷ []) ":50:A") ∷
    without "ACME LTD\n1 HIGH STREET\nLONDON" (ok Field50NoOption none "" ("ACME LTD" ∷ "1 HIGH STREET" ∷ "LONDON" ∷ []) ":50:ACME LTD\n1 HIGH STREET\nLONDON") ∷
    without "JOHN DOE\r\nSTREET 5\r\n" (ok Field50NoOption none "" ("JOHN DOE" ∷ "STREET 5" ∷ []) ":50:JOHN DOE\nSTREET 5") ∷
    by "C" "ABCDEFGH" (ok Field50C none "ABCDEFGH" [] ":50C:ABCDEFGH") ∷
    by "C" "" (no 9 1) ∷
    by "C" "~" (no 9 1) ∷
    by "C" "/~\n~" (no 9 1) ∷
    by "C" "DEUTDEFF" (ok Field50C none "DEUTDEFF" [] ":50C:DEUTDEFF") ∷
    by "C" "DEUTDEFF500" (ok Field50C none "DEUTDEFF500" [] ":50C:DEUTDEFF500") ∷
    by "C" "uBswChz0" (ok Field50C none "uBswChz0" [] ":50C:uBswChz0") ∷
    by "C" "X\n1/A" (no 9 1) ∷
    by "C" "/GB82WEST12345698765432\n1/JOHN SMITH\n2/456 AVENUE\n3/GB/LONDON" (no 9 1) ∷
    by "C" "NIDN/DE/121231234342\n1/MANN GEORG\n6/DE/ABC BANK/1234578293" (no 9 1) ∷
    by "C" "A" (no 9 1) ∷
    by "C" "ACME LTD\n1 HIGH STREET\nLONDON" (no 9 1) ∷
    by "C" "JOHN DOE\r\nSTREET 5\r\n" (no 9 1) ∷
    by "F" "ABCDEFGH" (no 1 0) ∷
    by "F" "~" (no 1 0) ∷
    by "F" "/~\n~" (no 3 1) ∷
    by "F" "DEUTDEFF" (no 1 0) ∷
    by "F" "DEUTDEFF500" (no 1 0) ∷
    by "F" "uBswChz0" (no 1 0) ∷
    by "F" "X\n1/A" (ok Field50F (some "X") "" ("A" ∷ []) ":50F:X\n1/A") ∷
    by "F" "/GB82WEST12345698765432\n1/JOHN SMITH\n2/456 AVENUE\n3/GB/LONDON" (ok Field50F (some "/GB82WEST12345698765432") "" ("JOHN SMITH" ∷ "456 AVENUE" ∷ "GB/LONDON" ∷ []) ":50F:/GB82WEST12345698765432\n1/JOHN SMITH\n2/456 AVENUE\n3/GB/LONDON") ∷
    by "F" "NIDN/DE/121231234342\n1/MANN GEORG\n6/DE/ABC BANK/1234578293" (ok Field50F (some "NIDN/DE/121231234342") "" ("MANN GEORG" ∷ "DE/ABC BANK/1234578293" ∷ []) ":50F:NIDN/DE/121231234342\n1/MANN GEORG\n2/DE/ABC BANK/1234578293") ∷
    by "F" "A" (no 1 0) ∷
    by "F" "ACME LTD\n1 HIGH STREET\nLONDON" (no 5 2) ∷
    by "F" "JOHN DOE\r\nSTREET 5\r\n" (no 5 2) ∷
    by "A" "ABCDEFGH" (ok Field50C none "ABCDEFGH" [] ":50C:ABCDEFGH") ∷
    by "B" "ABCDEFGH" (ok Field50C none "ABCDEFGH" [] ":50C:ABCDEFGH") ∷
    by "G" "ABCDEFGH" (ok Field50C none "ABCDEFGH" [] ":50C:ABCDEFGH") ∷
    by "H" "ABCDEFGH" (ok Field50C none "ABCDEFGH" [] ":50C:ABCDEFGH") ∷
    by "K" "ABCDEFGH" (ok Field50C none "ABCDEFGH" [] ":50C:ABCDEFGH") ∷
    by "L" "ABCDEFGH" (ok Field50C none "ABCDEFGH" [] ":50C:ABCDEFGH") ∷
    by "Y" "ABCDEFGH" (ok Field50C none "ABCDEFGH" [] ":50C:ABCDEFGH") ∷
    by "Z" "ABCDEFGH" (ok Field50C none "ABCDEFGH" [] ":50C:ABCDEFGH") ∷
    by "A" "" (no 11 0) ∷
    by "A" "~" (no 11 0) ∷
    by "A" "/~\n~" (no 11 0) ∷
    by "A" "DEUTDEFF" (ok Field50C none "DEUTDEFF" [] ":50C:DEUTDEFF") ∷
    by "A" "DEUTDEFF500" (ok Field50C none "DEUTDEFF500" [] ":50C:DEUTDEFF500") ∷
    by "A" "uBswChz0" (ok Field50C none "uBswChz0" [] ":50C:uBswChz0") ∷
    by "A" "X\n1/A" (ok Field50F (some "X") "" ("A" ∷ []) ":50F:X\n1/A") ∷
    by "A" "/GB82WEST12345698765432\n1/JOHN SMITH\n2/456 AVENUE\n3/GB/LONDON" (ok Field50F (some "/GB82WEST12345698765432") "" ("JOHN SMITH" ∷ "456 AVENUE" ∷ "GB/LONDON" ∷ []) ":50F:/GB82WEST12345698765432\n1/JOHN SMITH\n2/456 AVENUE\n3/GB/LONDON") ∷
    by "A" "NIDN/DE/121231234342\n1/MANN GEORG\n6/DE/ABC BANK/1234578293" (ok Field50F (some "NIDN/DE/121231234342") "" ("MANN GEORG" ∷ "DE/ABC BANK/1234578293" ∷ []) ":50F:NIDN/DE/121231234342\n1/MANN GEORG\n2/DE/ABC BANK/1234578293") ∷
    by "A" "A" (ok Field50NoOption none "" ("A" ∷ []) ":50:A") ∷
    by "A" "ACME LTD\n1 HIGH STREET\nLONDON" (ok Field50NoOption none "" ("ACME LTD" ∷ "1 HIGH STREET" ∷ "LONDON" ∷ []) ":50:ACME LTD\n1 HIGH STREET\nLONDON") ∷
    by "A" "JOHN DOE\r\nSTREET 5\r\n" (ok Field50NoOption none "" ("JOHN DOE" ∷ "STREET 5" ∷ []) ":50:JOHN DOE\nSTREET 5") ∷
    by "a" "ABCDEFGH" (ok Field50C none "ABCDEFGH" [] ":50C:ABCDEFGH") ∷
    by "c" "ABCDEFGH" (ok Field50C none "ABCDEFGH" [] ":50C:ABCDEFGH") ∷
    by "f" "ABCDEFGH" (ok Field50C none "ABCDEFGH" [] ":50C:ABCDEFGH") ∷
    by "z" "ABCDEFGH" (ok Field50C none "ABCDEFGH" [] ":50C:ABCDEFGH") ∷
    by "0" "ABCDEFGH" (ok Field50C none "ABCDEFGH" [] ":50C:ABCDEFGH") ∷
    by "5" "ABCDEFGH" (ok Field50C none "ABCDEFGH" [] ":50C:ABCDEFGH") ∷
    by "9" "ABCDEFGH" (ok Field50C none "ABCDEFGH" [] ":50C:ABCDEFGH") ∷
    by "\u{1}" "ABCDEFGH" (ok Field50C none "ABCDEFGH" [] ":50C:ABCDEFGH") ∷
    by "\t" "ABCDEFGH" (ok Field50C none "ABCDEFGH" [] ":50C:ABCDEFGH") ∷
    by "\n" "ABCDEFGH" (ok Field50C none "ABCDEFGH" [] ":50C:ABCDEFGH") ∷
    by " " "ABCDEFGH" (ok Field50C none "ABCDEFGH" [] ":50C:ABCDEFGH") ∷
    by "/" "ABCDEFGH" (ok Field50C none "ABCDEFGH" [] ":50C:ABCDEFGH") ∷
    by ":" "ABCDEFGH" (ok Field50C none "ABCDEFGH" [] ":50C:ABCDEFGH") ∷
    by "@" "ABCDEFGH" (ok Field50C none "ABCDEFGH" [] ":50C:ABCDEFGH") ∷
    by "[" "ABCDEFGH" (ok Field50C none "ABCDEFGH" [] ":50C:ABCDEFGH") ∷
    by "`" "ABCDEFGH" (ok Field50C none "ABCDEFGH" [] ":50C:ABCDEFGH") ∷
    by "{" "ABCDEFGH" (ok Field50C none "ABCDEFGH" [] ":50C:ABCDEFGH") ∷
    by "~" "ABCDEFGH" (ok Field50C none "ABCDEFGH" [] ":50C:ABCDEFGH") ∷
    by "\u{7f}" "ABCDEFGH" (ok Field50C none "ABCDEFGH" [] ":50C:ABCDEFGH") ∷
    parse "\n" (ok Field50NoOption none "" ("" ∷ []) ":50:") ∷
    parse "\r" (ok Field50NoOption none "" ("\r" ∷ []) ":50:\r") ∷
    parse "\r\n" (ok Field50NoOption none "" ("" ∷ []) ":50:") ∷
    parse "A\n" (ok Field50NoOption none "" ("A" ∷ []) ":50:A") ∷
    parse "A\r" (ok Field50NoOption none "" ("A\r" ∷ []) ":50:A\r") ∷
    parse "A\r\n" (ok Field50NoOption none "" ("A" ∷ []) ":50:A") ∷
    parse "ABCDEFG" (ok Field50NoOption none "" ("ABCDEFG" ∷ []) ":50:ABCDEFG") ∷
    parse "ABCDEFG\n" (ok Field50NoOption none "" ("ABCDEFG" ∷ []) ":50:ABCDEFG") ∷
    parse "ABCDEFG\r" (ok Field50NoOption none "" ("ABCDEFG\r" ∷ []) ":50:ABCDEFG\r") ∷
    parse "ABCDEFG\r\n" (ok Field50NoOption none "" ("ABCDEFG" ∷ []) ":50:ABCDEFG") ∷
    parse "ABCDEFGH\r" (ok Field50NoOption none "" ("ABCDEFGH\r" ∷ []) ":50:ABCDEFGH\r") ∷
    parse "ABCDEFGH\r\n" (ok Field50NoOption none "" ("ABCDEFGH" ∷ []) ":50:ABCDEFGH") ∷
    parse "ABCDEFGHI" (ok Field50NoOption none "" ("ABCDEFGHI" ∷ []) ":50:ABCDEFGHI") ∷
    parse "ABCDEFGHI\n" (ok Field50NoOption none "" ("ABCDEFGHI" ∷ []) ":50:ABCDEFGHI") ∷
    parse "ABCDEFGHI\r" (ok Field50NoOption none "" ("ABCDEFGHI\r" ∷ []) ":50:ABCDEFGHI\r") ∷
    parse "ABCDEFGHI\r\n" (ok Field50NoOption none "" ("ABCDEFGHI" ∷ []) ":50:ABCDEFGHI") ∷
    parse "ABCDEFGHIJ" (ok Field50NoOption none "" ("ABCDEFGHIJ" ∷ []) ":50:ABCDEFGHIJ") ∷
    parse "ABCDEFGHIJ\n" (ok Field50NoOption none "" ("ABCDEFGHIJ" ∷ []) ":50:ABCDEFGHIJ") ∷
    parse "ABCDEFGHIJ\r" (ok Field50NoOption none "" ("ABCDEFGHIJ\r" ∷ []) ":50:ABCDEFGHIJ\r") ∷
    parse "ABCDEFGHIJ\r\n" (ok Field50NoOption none "" ("ABCDEFGHIJ" ∷ []) ":50:ABCDEFGHIJ") ∷
    parse "ABCDEFGHIJK" (ok Field50C none "ABCDEFGHIJK" [] ":50C:ABCDEFGHIJK") ∷
    parse "ABCDEFGHIJK\n" (ok Field50NoOption none "" ("ABCDEFGHIJK" ∷ []) ":50:ABCDEFGHIJK") ∷
    parse "ABCDEFGHIJK\r" (ok Field50NoOption none "" ("ABCDEFGHIJK\r" ∷ []) ":50:ABCDEFGHIJK\r") ∷
    parse "ABCDEFGHIJK\r\n" (ok Field50NoOption none "" ("ABCDEFGHIJK" ∷ []) ":50:ABCDEFGHIJK") ∷
    parse "ABCDEFGHIJKL" (ok Field50NoOption none "" ("ABCDEFGHIJKL" ∷ []) ":50:ABCDEFGHIJKL") ∷
    parse "ABCDEFGHIJKL\n" (ok Field50NoOption none "" ("ABCDEFGHIJKL" ∷ []) ":50:ABCDEFGHIJKL") ∷
    parse "ABCDEFGHIJKL\r" (ok Field50NoOption none "" ("ABCDEFGHIJKL\r" ∷ []) ":50:ABCDEFGHIJKL\r") ∷
    parse "ABCDEFGHIJKL\r\n" (ok Field50NoOption none "" ("ABCDEFGHIJKL" ∷ []) ":50:ABCDEFGHIJKL") ∷
    parse "/A" (ok Field50NoOption none "" ("/A" ∷ []) ":50:/A") ∷
    parse "/A\nA" (ok Field50NoOption none "" ("/A" ∷ "A" ∷ []) ":50:/A\nA") ∷
    parse "/A\nABCDEFGH" (ok Field50NoOption none "" ("/A" ∷ "ABCDEFGH" ∷ []) ":50:/A\nABCDEFGH") ∷
    parse "/A\n1/A" (ok Field50F (some "/A") "" ("A" ∷ []) ":50F:/A\n1/A") ∷
    parse "/A\nA\nB" (ok Field50NoOption none "" ("/A" ∷ "A" ∷ "B" ∷ []) ":50:/A\nA\nB") ∷
    parse "/A\nA\n1/A" (ok Field50NoOption none "" ("/A" ∷ "A" ∷ "1/A" ∷ []) ":50:/A\nA\n1/A") ∷
    parse "/A\n1/A\nA" (ok Field50NoOption none "" ("/A" ∷ "1/A" ∷ "A" ∷ []) ":50:/A\n1/A\nA") ∷
    parse "/A\n1/A\n1/B" (ok Field50F (some "/A") "" ("A" ∷ "B" ∷ []) ":50F:/A\n1/A\n2/B") ∷
    parse "A\nA" (ok Field50NoOption none "" ("A" ∷ "A" ∷ []) ":50:A\nA") ∷
    parse "A\nABCDEFGH" (ok Field50NoOption none "" ("A" ∷ "ABCDEFGH" ∷ []) ":50:A\nABCDEFGH") ∷
    parse "A\n1/A" (ok Field50F (some "A") "" ("A" ∷ []) ":50F:A\n1/A") ∷
    parse "A\nA\nB" (ok Field50NoOption none "" ("A" ∷ "A" ∷ "B" ∷ []) ":50:A\nA\nB") ∷
    parse "A\nA\n1/A" (ok Field50NoOption none "" ("A" ∷ "A" ∷ "1/A" ∷ []) ":50:A\nA\n1/A") ∷
    parse "A\n1/A\nA" (ok Field50NoOption none "" ("A" ∷ "1/A" ∷ "A" ∷ []) ":50:A\n1/A\nA") ∷
    parse "A\n1/A\n1/B" (ok Field50F (some "A") "" ("A" ∷ "B" ∷ []) ":50F:A\n1/A\n2/B") ∷
    parse "\rABCDEFGH" (ok Field50NoOption none "" ("\rABCDEFGH" ∷ []) ":50:\rABCDEFGH") ∷
    parse "A\rBCDEFGH" (ok Field50NoOption none "" ("A\rBCDEFGH" ∷ []) ":50:A\rBCDEFGH") ∷
    parse "AB\rCDEFGH" (ok Field50NoOption none "" ("AB\rCDEFGH" ∷ []) ":50:AB\rCDEFGH") ∷
    parse "ABC\rDEFGH" (ok Field50NoOption none "" ("ABC\rDEFGH" ∷ []) ":50:ABC\rDEFGH") ∷
    parse "ABCD\rEFGH" (ok Field50NoOption none "" ("ABCD\rEFGH" ∷ []) ":50:ABCD\rEFGH") ∷
    parse "ABCDE\rFGH" (ok Field50NoOption none "" ("ABCDE\rFGH" ∷ []) ":50:ABCDE\rFGH") ∷
    parse "ABCDEF\rGH" (ok Field50NoOption none "" ("ABCDEF\rGH" ∷ []) ":50:ABCDEF\rGH") ∷
    parse "ABCDEFG\rH" (ok Field50NoOption none "" ("ABCDEFG\rH" ∷ []) ":50:ABCDEFG\rH") ∷
    parse "\nABCDEFGH" (ok Field50NoOption none "" ("" ∷ "ABCDEFGH" ∷ []) ":50:\nABCDEFGH") ∷
    parse "A\nBCDEFGH" (ok Field50NoOption none "" ("A" ∷ "BCDEFGH" ∷ []) ":50:A\nBCDEFGH") ∷
    parse "AB\nCDEFGH" (ok Field50NoOption none "" ("AB" ∷ "CDEFGH" ∷ []) ":50:AB\nCDEFGH") ∷
    parse "ABC\nDEFGH" (ok Field50NoOption none "" ("ABC" ∷ "DEFGH" ∷ []) ":50:ABC\nDEFGH") ∷
    parse "ABCD\nEFGH" (ok Field50NoOption none "" ("ABCD" ∷ "EFGH" ∷ []) ":50:ABCD\nEFGH") ∷
    parse "ABCDE\nFGH" (ok Field50NoOption none "" ("ABCDE" ∷ "FGH" ∷ []) ":50:ABCDE\nFGH") ∷
    parse "ABCDEF\nGH" (ok Field50NoOption none "" ("ABCDEF" ∷ "GH" ∷ []) ":50:ABCDEF\nGH") ∷
    parse "ABCDEFG\nH" (ok Field50NoOption none "" ("ABCDEFG" ∷ "H" ∷ []) ":50:ABCDEFG\nH") ∷
    parse "\r\nABCDEFGH" (ok Field50NoOption none "" ("" ∷ "ABCDEFGH" ∷ []) ":50:\nABCDEFGH") ∷
    parse "A\r\nBCDEFGH" (ok Field50NoOption none "" ("A" ∷ "BCDEFGH" ∷ []) ":50:A\nBCDEFGH") ∷
    parse "AB\r\nCDEFGH" (ok Field50NoOption none "" ("AB" ∷ "CDEFGH" ∷ []) ":50:AB\nCDEFGH") ∷
    parse "ABC\r\nDEFGH" (ok Field50NoOption none "" ("ABC" ∷ "DEFGH" ∷ []) ":50:ABC\nDEFGH") ∷
    parse "ABCD\r\nEFGH" (ok Field50NoOption none "" ("ABCD" ∷ "EFGH" ∷ []) ":50:ABCD\nEFGH") ∷
    parse "ABCDE\r\nFGH" (ok Field50NoOption none "" ("ABCDE" ∷ "FGH" ∷ []) ":50:ABCDE\nFGH") ∷
    parse "ABCDEF\r\nGH" (ok Field50NoOption none "" ("ABCDEF" ∷ "GH" ∷ []) ":50:ABCDEF\nGH") ∷
    parse "ABCDEFG\r\nH" (ok Field50NoOption none "" ("ABCDEFG" ∷ "H" ∷ []) ":50:ABCDEFG\nH") ∷
    parse "\rBCDEFGH" (ok Field50NoOption none "" ("\rBCDEFGH" ∷ []) ":50:\rBCDEFGH") ∷
    parse "A\rCDEFGH" (ok Field50NoOption none "" ("A\rCDEFGH" ∷ []) ":50:A\rCDEFGH") ∷
    parse "AB\rDEFGH" (ok Field50NoOption none "" ("AB\rDEFGH" ∷ []) ":50:AB\rDEFGH") ∷
    parse "ABC\rEFGH" (ok Field50NoOption none "" ("ABC\rEFGH" ∷ []) ":50:ABC\rEFGH") ∷
    parse "ABCD\rFGH" (ok Field50NoOption none "" ("ABCD\rFGH" ∷ []) ":50:ABCD\rFGH") ∷
    parse "ABCDE\rGH" (ok Field50NoOption none "" ("ABCDE\rGH" ∷ []) ":50:ABCDE\rGH") ∷
    parse "ABCDEF\rH" (ok Field50NoOption none "" ("ABCDEF\rH" ∷ []) ":50:ABCDEF\rH") ∷
    parse "\nBCDEFGH" (ok Field50NoOption none "" ("" ∷ "BCDEFGH" ∷ []) ":50:\nBCDEFGH") ∷
    parse "A\nCDEFGH" (ok Field50NoOption none "" ("A" ∷ "CDEFGH" ∷ []) ":50:A\nCDEFGH") ∷
    parse "AB\nDEFGH" (ok Field50NoOption none "" ("AB" ∷ "DEFGH" ∷ []) ":50:AB\nDEFGH") ∷
    parse "ABC\nEFGH" (ok Field50NoOption none "" ("ABC" ∷ "EFGH" ∷ []) ":50:ABC\nEFGH") ∷
    parse "ABCD\nFGH" (ok Field50NoOption none "" ("ABCD" ∷ "FGH" ∷ []) ":50:ABCD\nFGH") ∷
    parse "ABCDE\nGH" (ok Field50NoOption none "" ("ABCDE" ∷ "GH" ∷ []) ":50:ABCDE\nGH") ∷
    parse "ABCDEF\nH" (ok Field50NoOption none "" ("ABCDEF" ∷ "H" ∷ []) ":50:ABCDEF\nH") ∷
    parse "\rX\n1/A" (ok Field50F (some "\rX") "" ("A" ∷ []) ":50F:\rX\n1/A") ∷
    parse "X\r\n1/A" (ok Field50F (some "X") "" ("A" ∷ []) ":50F:X\n1/A") ∷
    parse "X\n\r1/A" (ok Field50NoOption none "" ("X" ∷ "\r1/A" ∷ []) ":50:X\n\r1/A") ∷
    parse "X\n1\r/A" (ok Field50NoOption none "" ("X" ∷ "1\r/A" ∷ []) ":50:X\n1\r/A") ∷
    parse "X\n1/\rA" (ok Field50F (some "X") "" ("\rA" ∷ []) ":50F:X\n1/\rA") ∷
    parse "X\n1/A\r" (ok Field50F (some "X") "" ("A\r" ∷ []) ":50F:X\n1/A\r") ∷
    parse "\nX\n1/A" (ok Field50NoOption none "" ("" ∷ "X" ∷ "1/A" ∷ []) ":50:\nX\n1/A") ∷
    parse "X\n\n1/A" (ok Field50NoOption none "" ("X" ∷ "" ∷ "1/A" ∷ []) ":50:X\n\n1/A") ∷
    parse "X\n1\n/A" (ok Field50NoOption none "" ("X" ∷ "1" ∷ "/A" ∷ []) ":50:X\n1\n/A") ∷
    parse "X\n1/\nA" (ok Field50NoOption none "" ("X" ∷ "1/" ∷ "A" ∷ []) ":50:X\n1/\nA") ∷
    parse "X\n1/A\n" (ok Field50F (some "X") "" ("A" ∷ []) ":50F:X\n1/A") ∷
    parse "\r\nX\n1/A" (ok Field50NoOption none "" ("" ∷ "X" ∷ "1/A" ∷ []) ":50:\nX\n1/A") ∷
    parse "X\r\n\n1/A" (ok Field50NoOption none "" ("X" ∷ "" ∷ "1/A" ∷ []) ":50:X\n\n1/A") ∷
    parse "X\n\r\n1/A" (ok Field50NoOption none "" ("X" ∷ "" ∷ "1/A" ∷ []) ":50:X\n\n1/A") ∷
    parse "X\n1\r\n/A" (ok Field50NoOption none "" ("X" ∷ "1" ∷ "/A" ∷ []) ":50:X\n1\n/A") ∷
    parse "X\n1/\r\nA" (ok Field50NoOption none "" ("X" ∷ "1/" ∷ "A" ∷ []) ":50:X\n1/\nA") ∷
    parse "X\n1/A\r\n" (ok Field50F (some "X") "" ("A" ∷ []) ":50F:X\n1/A") ∷
    parse "\r\n1/A" (ok Field50NoOption none "" ("" ∷ "1/A" ∷ []) ":50:\n1/A") ∷
    parse "X\r1/A" (ok Field50NoOption none "" ("X\r1/A" ∷ []) ":50:X\r1/A") ∷
    parse "X\n\r/A" (ok Field50NoOption none "" ("X" ∷ "\r/A" ∷ []) ":50:X\n\r/A") ∷
    parse "X\n1\rA" (ok Field50NoOption none "" ("X" ∷ "1\rA" ∷ []) ":50:X\n1\rA") ∷
    parse "X\n1/\r" (ok Field50F (some "X") "" ("\r" ∷ []) ":50F:X\n1/\r") ∷
    parse "\n\n1/A" (ok Field50NoOption none "" ("" ∷ "" ∷ "1/A" ∷ []) ":50:\n\n1/A") ∷
    parse "X\n\n/A" (ok Field50NoOption none "" ("X" ∷ "" ∷ "/A" ∷ []) ":50:X\n\n/A") ∷
    parse "X\n1\nA" (ok Field50NoOption none "" ("X" ∷ "1" ∷ "A" ∷ []) ":50:X\n1\nA") ∷
    parse "X\n1/\n" (ok Field50F (some "X") "" ("" ∷ []) ":50F:X\n1/") ∷
    parse "\rA" (ok Field50NoOption none "" ("\rA" ∷ []) ":50:\rA") ∷
    parse "\nA" (ok Field50NoOption none "" ("" ∷ "A" ∷ []) ":50:\nA") ∷
    parse "\r\nA" (ok Field50NoOption none "" ("" ∷ "A" ∷ []) ":50:\nA") ∷
    parse "ABCDEFGH\nABCDEFGHIJKLMNOPQRSTUVWXYZ0123456789ABCDEFGHIJKLMNOPQRSTUVWXYZ0123456789ABCDEFGHIJKLMNOPQRSTUVWXYZ0123456789ABCDEFGHIJKLMNOPQRSTUVWXYZ0123456789ABCDEFGHIJKLMNOPQRSTUVWXYZ0123456789ABCDEFGHIJKLMNOPQRSTUVWXYZ0123456789ABCDEFGHIJKLMNOPQRSTUVWXYZ0123456789ABCDEFGHIJKLMNOPQRSTUVWXYZ0123456789ABCDEFGHIJKLMNOPQRSTUVWXYZ0123456789ABCDEFGHIJKLMNOPQRSTUVWXYZ0123456789ABCDEFGHIJKLMNOPQRSTUVWXYZ0123456789ABCDEFGHIJKLMNOPQRSTUVWXYZ0123456789ABCDEFGHIJKLMNOPQRSTUVWXYZ0123456789ABCDEFGHIJKLMNOPQRSTUVWXYZ0123456789ABCDEFGHIJKLMNOPQRSTUVWXYZ0123456789ABCDEFGHIJKLMNOPQRSTUVWXYZ0123456789ABCDEFGHIJKLMNOPQRSTUVWXYZ0123456789ABCDEFGHIJKLMNOPQRSTUVWXYZ0123456789ABCDEFGHIJKLMNOPQRSTUVWXYZ0123456789ABCDEFGHIJKLMNOPQRSTUVWXYZ0123456789ABCDEFGHIJKLMNOPQRSTUVWXYZ0123456789ABCDEFGHIJKLMNOPQRSTUVWXYZ0123456789ABCDEFGHIJKLMNOPQRSTUVWXYZ0123456789ABCDEFGHIJKLMNOPQRSTUVWXYZ0123456789ABCDEFGHIJKLMNOPQRSTUVWXYZ0123456789ABCDEFGHIJKLMNOPQRSTUVWXYZ0123456789ABCDEFGHIJKLMNOPQRSTUVWXYZ0123456789ABCDEFGHIJKLMNOPQRSTUVWXYZ0123456789ABCDEFGHIJKLMNOPQRSTUVWXYZ0123456789ABCDEFGHIJKLMNOPQRSTUVWXYZ0123456789ABCDEFGHIJKLMNOPQRSTUVWXYZ0123456789ABCDEFGHIJKLMNOPQRSTUVWXYZ0123456789ABCDEFGHIJKLMNOPQRSTUVWXYZ0123456789ABCDEFGHIJKLMNOPQRSTUVWXYZ0123456789ABCDEFGHIJKLMNOPQRSTUVWXYZ0123456789ABCDEFGHIJKLMNOPQRSTUVWXYZ0123456789ABCDEFGHIJKLMNOPQRSTUVWXYZ0123456789ABCDEFGHIJKLMNOPQRSTUVWXYZ0123456789ABCDEFGHIJKLMNOPQRSTUVWXYZ0123456789ABCDEFGHIJKLMNOPQRSTUVWXYZ0123456789ABCDEFGHIJKLMNOPQRSTUVWXYZ0123456789ABCDEFGHIJKLMNOPQRSTUVWXYZ0123456789ABCDEFGHIJKLMNOPQRSTUVWXYZ0123456789ABCDEFGHIJKLMNOPQRSTUVWXYZ0123456789ABCDEFGHIJKLMNOPQRSTUVWXYZ0123456789ABCDEFGHIJKLMNOPQRSTUVWXYZ0123456789ABCDEFGHIJKLMNOPQRSTUVWXYZ0123456789ABCDEFGHIJKLMNOPQRSTUVWXYZ0123456789ABCDEFGHIJKLMNOPQRSTUVWXYZ0123456789ABCDEFGHIJKLMNOPQRSTUVWXYZ0123456789ABCDEFGHIJKLMNOPQRSTUVWXYZ0123456789ABCDEFGHIJKLMNOPQRSTUVWXYZ0123456789ABCDEFGHIJKLMNOPQRSTUVWXYZ0123456789ABCDEFGHIJKLMNOPQRSTUVWXYZ0123456789ABCDEFGHIJKLMNOPQRSTUVWXYZ0123456789ABCDEFGHIJKLMNOPQRSTUVWXYZ0123456789ABCDEFGHIJKLMN\nABCDEFGH" (no 11 0) ∷
    by "Y" "\r" (ok Field50NoOption none "" ("\r" ∷ []) ":50:\r") ∷
    by "H" "ABCDEFGHIJKLMN:PQ~RSTUVWXY/012345678\nz}\nA+\nX\n" (no 11 0) ∷
    by "K" "XABCDEFGHIJKLMNOPQRSUVWXYZ0123456\n1/b\n" (ok Field50F (some "XABCDEFGHIJKLMNOPQRSUVWXYZ0123456") "" ("b" ∷ []) ":50F:XABCDEFGHIJKLMNOPQRSUVWXYZ0123456\n1/b") ∷
    without "A\0ME LTD\n1 HIGH STREET\nLONDON" (no 3 1) ∷
    parse "ABCDEFGHIJKL\r/%:B/Bz.'0" (ok Field50NoOption none "" ("ABCDEFGHIJKL\r/%:B/Bz.'0" ∷ []) ":50:ABCDEFGHIJKL\r/%:B/Bz.'0") ∷
    without "b\nY1@%:\nABCDEFGHIJKLMNOPQRSTUVWXYZ01234567\nABCDE\0GHIJKLMNOPQRST1234567\nABCDEFGHIJKLMNOPQRSTUVWXYZ01234567\n" (no 1 0) ∷
    by "C" "AbCdEf12" (ok Field50C none "AbCdEf12" [] ":50C:AbCdEf12") ∷
    by "Z" "\n//{x@_)X\n2/y]!\r\n3/8:/1\n//" (no 11 0) ∷
    by "F" "X_\r\n1/$\r\n2/X**%\r\n3/;" (ok Field50F (some "X_") "" ("$" ∷ "X**%" ∷ ";" ∷ []) ":50F:X_\n1/$\n2/X**%\n3/;") ∷
    parse "i\n1/A" (ok Field50F (some "i") "" ("A" ∷ []) ":50F:i\n1/A") ∷
    by "B" "XABCDEFGHIJK:LMNOPQRSTUVWXYZ0134567\n1/ABCDEFGHIJKLMNOPQRSTUVWXYZ012345\n2/\"y',$0\n3/\n4/ABCDEFGHIJKLMNOPQRSTUVWXYZ012345\n" (ok Field50F (some "XABCDEFGHIJK:LMNOPQRSTUVWXYZ0134567") "" ("ABCDEFGHIJKLMNOPQRSTUVWXYZ012345" ∷ "\"y',$0" ∷ "" ∷ "ABCDEFGHIJKLMNOPQRSTUVWXYZ012345" ∷ []) ":50F:XABCDEFGHIJK:LMNOPQRSTUVWXYZ0134567\n1/ABCDEFGHIJKLMNOPQRSTUVWXYZ012345\n2/\"y',$0\n3/\n4/ABCDEFGHIJKLMNOPQRSTUVWXYZ012345") ∷
    by "C" "9BCDEFGH^" (no 9 1) ∷
    parse "\rBswChz0" (ok Field50NoOption none "" ("\rBswChz0" ∷ []) ":50:\rBswChz0") ∷
    by "F" "6/ \rAbCdEf12\n\n" (no 5 2) ∷
    parse "UBSWCHZ0" (ok Field50C none "UBSWCHZ0" [] ":50C:UBSWCHZ0") ∷
    parse "u0BswChzz0" (ok Field50NoOption none "" ("u0BswChzz0" ∷ []) ":50:u0BswChzz0") ∷
    by "F" "NIDN/DE/12231234342\n1/MANN GEORG\n6/DE/ABC BA BANK/1" (ok Field50F (some "NIDN/DE/12231234342") "" ("MANN GEORG" ∷ "DE/ABC BA BANK/1" ∷ []) ":50F:NIDN/DE/12231234342\n1/MANN GEORG\n2/DE/ABC BA BANK/1") ∷
    without "X<0$|\n1/ABCDWEFGHIJKLM\nOPQRSTUVWXYZ012345\n2/z1[bX$" (ok Field50NoOption none "" ("X<0$|" ∷ "1/ABCDWEFGHIJKLM" ∷ "OPQRSTUVWXYZ012345" ∷ "2/z1[bX$" ∷ []) ":50:X<0$|\n1/ABCDWEFGHIJKLM\nOPQRSTUVWXYZ012345\n2/z1[bX$") ∷
    by "F" "XABCDEFGHIJKL/NOPQRSTUVWXYZ0123456\n1/c{|x\n2/=:$=B\n3/B}yzy" (ok Field50F (some "XABCDEFGHIJKL/NOPQRSTUVWXYZ0123456") "" ("c{|x" ∷ "=:$=B" ∷ "B}yzy" ∷ []) ":50F:XABCDEFGHIJKL/NOPQRSTUVWXYZ0123456\n1/c{|x\n2/=:$=B\n3/B}yzy") ∷
    by "F" "X\nX\n1/A//A" (no 5 2) ∷
    by "Y" "5/+c\r\nABCDEFGHIJK\nxX]\n3/;x';C" (ok Field50NoOption none "" ("5/+c" ∷ "ABCDEFGHIJK" ∷ "xX]" ∷ "3/;x';C" ∷ []) ":50:5/+c\nABCDEFGHIJK\nxX]\n3/;x';C") ∷
    by "G" "A" (ok Field50NoOption none "" ("A" ∷ []) ":50:A") ∷
    by "F" "X=&0\n1/[#\n/}y!\n" (no 5 3) ∷
    without "+" (ok Field50NoOption none "" ("+" ∷ []) ":50:+") ∷
    by "B" "90XxB:\r\nyB" (ok Field50NoOption none "" ("90XxB:" ∷ "yB" ∷ []) ":50:90XxB:\nyB") ∷
    parse "*?;]\n\nABCDEFGH\n/#//y\rAbCdEf12\n" (ok Field50NoOption none "" ("*?;]" ∷ "" ∷ "ABCDEFGH" ∷ "/#//y\rAbCdEf12" ∷ []) ":50:*?;]\n\nABCDEFGH\n/#//y\rAbCdEf12") ∷
    parse "C\r\n/\r\n" (ok Field50NoOption none "" ("C" ∷ "/" ∷ []) ":50:C\n/") ∷
    by "C" "ABCDEFGHIJKLMNOPQRSTUVWXYZ012345678\r deutdeff" (no 9 1) ∷
    by "F" "XABCDEFGHIJKLMNOPQRSTUVWXY01234567\n1/!xz\n2/|z}xB=\n3/@>A\"Z" (ok Field50F (some "XABCDEFGHIJKLMNOPQRSTUVWXY01234567") "" ("!xz" ∷ "|z}xB=" ∷ "@>A\"Z" ∷ []) ":50F:XABCDEFGHIJKLMNOPQRSTUVWXY01234567\n1/!xz\n2/|z}xB=\n3/@>A\"Z") ∷
    by "G" "JO\u{8}N DOE\r\nSTREET 5\r\n" (no 11 0) ∷
    by "F" "X\nX\n" (no 5 2) ∷
    without "zX\n1A" (ok Field50NoOption none "" ("zX" ∷ "1A" ∷ []) ":50:zX\n1A") ∷
    by "C" "BCDEFGHIJKIJKL" (no 9 1) ∷
    without "ayb|!z\nABCDEFGHIJKLMNOPQRSTUVWXYZ012345678" (ok Field50NoOption none "" ("ayb|!z" ∷ "ABCDEFGHIJKLMNOPQRSTUVWXYZ012345678" ∷ []) ":50:ayb|!z\nABCDEFGHIJKLMNOPQRSTUVWXYZ012345678") ∷
    by "F" "XABCDEFGHIJKL-NOPQRSTUVWXYZ01234567\r\n1//ABCDEFGHIJKLMNOPQRSTUVWX~Z0123456\r\n2/b{<Y\r\n3/ABCDEFGHIJKLMNOPQRSTUVWXYZ0123456\r\n4/(%\r\n" (no 4 2) ∷
    by "Y" "XZ\n1/\n2/?A[\"c" (ok Field50F (some "XZ") "" ("" ∷ "?A[\"c" ∷ []) ":50F:XZ\n1/\n2/?A[\"c") ∷
    by "F" "//9>[=\n/ABCDEFGHIJKLMNOPQRSTUVWXYZ012345678\n//+\r/&]?B\nABCDEFGH" (no 5 2) ∷
    by "F" "ABCDEFGHIJKLMNOPQRSTUVWXYZ0123456789\rA8%{Y\n2/X(" (no 2 1) ∷
    parse "A\nA\nA\nABCDEFGHIJKLMNOPQR\u{7f}TUVWXYZ012345678" (no 11 0) ∷
    by "H" "XABCDEFGHIJKLMNOPQRSTUVWXYZ01234567\r\n1/\"\"[)(}" (ok Field50F (some "XABCDEFGHIJKLMNOPQRSTUVWXYZ01234567") "" ("\"\"[)(}" ∷ []) ":50F:XABCDEFGHIJKLMNOPQRSTUVWXYZ01234567\n1/\"\"[)(}") ∷
    without "A\nA\nA\nAzA\nA8A" (no 1 0) ∷
    by "B" "A\nA\nA:A" (ok Field50NoOption none "" ("A" ∷ "A" ∷ "A:A" ∷ []) ":50:A\nA\nA:A") ∷
    without "ABCD" (ok Field50NoOption none "" ("ABCD" ∷ []) ":50:ABCD") ∷
    without "ABCDEFGHIJKLMNOPQRSTUV-XYZ01234456789\nB" (no 4 1) ∷
    without "UBSWCHZ0\n1/(?x ;\n/ %;C!\r\n3/Z.a9\nUBSWCHZ0\rABCDEFGH\r\n=1(yZc" (no 1 0) ∷
    by "K" "Xy$&\n1/_$c_/" (ok Field50F (some "Xy$&") "" ("_$c_/" ∷ []) ":50F:Xy$&\n1/_$c_/") ∷
    by "B" "ABCDEF123AZ" (ok Field50C none "ABCDEF123AZ" [] ":50C:ABCDEF123AZ") ∷
    without "UBSWCHZ0\n/)\n//-\r\n\r\n//?>\r5/\n" (no 1 0) ∷
    parse "/ C}'>\nABCDEFGHIJKL\n2/ABCDEFGHIJKLMNOPQRSTUVWXYZ012345\r\n/a;!Z\n" (ok Field50NoOption none "" ("/ C}'>" ∷ "ABCDEFGHIJKL" ∷ "2/ABCDEFGHIJKLMNOPQRSTUVWXYZ012345" ∷ "/a;!Z" ∷ []) ":50:/ C}'>\nABCDEFGHIJKL\n2/ABCDEFGHIJKLMNOPQRSTUVWXYZ012345\n/a;!Z") ∷
    parse "~Az" (no 11 0) ∷
    by "C" "\n1/A" (no 9 1) ∷
    by "A" "%Z\nac-?\r,\nY{" (ok Field50NoOption none "" ("%Z" ∷ "ac-?\r," ∷ "Y{" ∷ []) ":50:%Z\nac-?\r,\nY{") ∷
    by "L" "ACME LTD\n1 \nHIGH STREET\nLONDO" (ok Field50NoOption none "" ("ACME LTD" ∷ "1 " ∷ "HIGH STREET" ∷ "LONDO" ∷ []) ":50:ACME LTD\n1 \nHIGH STREET\nLONDO") ∷
    without "*XZ\tb\n@$} \nXZ\tb\n@$} \n" (no 3 1) ∷
    by "F" "0/{\n6/.1>'@z" (ok Field50F (some "0/{") "" (".1>'@z" ∷ []) ":50F:0/{\n1/.1>'@z") ∷
    parse "@>#/1\nABCDEFGHIJK\r\nABCDEFGHIJKLMNOPQRSTUVWXYZ01234567\nABCDEFGHIJKLMNOPQRSTUVWXYZ0123456789" (no 11 0) ∷
    by "C" "A\u{7f}BCDFGHI\n" (no 9 1) ∷
    by "F" "JOHN DOE\r\nSTREET" (no 5 2) ∷
    parse "\n1/A" (ok Field50NoOption none "" ("" ∷ "1/A" ∷ []) ":50:\n1/A") ∷
    without "ACME LTD\n1 H\nIGH\\STREET\n\u{1f}ONDON" (no 3 3) ∷
    parse "X.y<\r\n1/]@<%}}\r\n2/a>y" (ok Field50F (some "X.y<") "" ("]@<%}}" ∷ "a>y" ∷ []) ":50F:X.y<\n1/]@<%}}\n2/a>y") ∷
    by "Z" "B!@ \"'\n/%>\n(.@\"*A\n/aY" (ok Field50NoOption none "" ("B!@ \"'" ∷ "/%>" ∷ "(.@\"*A" ∷ "/aY" ∷ []) ":50:B!@ \"'\n/%>\n(.@\"*A\n/aY") ∷
    by "F" "&C]]z-\n//A>\n/zA/Y,\rABCDEFGHIJKLMNOPQRSTUVWXYZ01234567" (no 5 2) ∷
    by "F" "\n~/A\n2/A\n\n3/A\n4/" (no 2 1) ∷
    without "X\r\n1/)\r\n2/.$89\r\n3/ABCDEFGHIJKLMNOPQRSTUVWXYZ012345" (ok Field50NoOption none "" ("X" ∷ "1/)" ∷ "2/.$89" ∷ "3/ABCDEFGHIJKLMNOPQRSTUVWXYZ012345" ∷ []) ":50:X\n1/)\n2/.$89\n3/ABCDEFGHIJKLMNOPQRSTUVWXYZ012345") ∷
    by "A" " UBSWCHZ0\n//]\n UBSWCHZ0\r\nABCDEFGHIJKLMNOPQRSTUVWXYZ0123456\r\n4/ABCDEFGHIJKLMNOPQRSTUVWXYZ0123456\r/]" (no 11 0) ∷
    by "Z" "JOHN DOE\r\nSTRET 5\r\n" (ok Field50NoOption none "" ("JOHN DOE" ∷ "STRET 5" ∷ []) ":50:JOHN DOE\nSTRET 5") ∷
    parse "0/\n AbCdEf12\r2/;\r\n((,0:\n/AB/" (ok Field50NoOption none "" ("0/" ∷ " AbCdEf12\r2/;" ∷ "((,0:" ∷ "/AB/" ∷ []) ":50:0/\n AbCdEf12\r2/;\n((,0:\n/AB/") ∷
    without "NIDN/DE/121231234342 \n1/MANN GEORG\n6/DE/ABC BAN" (ok Field50NoOption none "" ("NIDN/DE/121231234342 " ∷ "1/MANN GEORG" ∷ "6/DE/ABC BAN" ∷ []) ":50:NIDN/DE/121231234342 \n1/MANN GEORG\n6/DE/ABC BAN") ∷
    by "H" "UBSWCHZ0\n\n" (ok Field50NoOption none "" ("UBSWCHZ0" ∷ "" ∷ []) ":50:UBSWCHZ0\n") ∷
    by "F" "X\n1/\n1/A" (ok Field50F (some "X") "" ("" ∷ "A" ∷ []) ":50F:X\n1/\n2/A") ∷
    parse "/1[\n1/ABCDEFGHIJKLMNOPQRSTUVWXYZ012345\r\n/a\n3/z)/8z\n/," (no 11 0) ∷
    by "B" "X_\u{c}<\r\n1/A\r\n" (no 11 0) ∷
    by "F" "X8\n1/\n2/[/%c_\n3/|@+\n4/|_?\n" (ok Field50F (some "X8") "" ("" ∷ "[/%c_" ∷ "|@+" ∷ "|_?" ∷ []) ":50F:X8\n1/\n2/[/%c_\n3/|@+\n4/|_?") ∷
    without "=0$0.\nbz8Y$\n" (ok Field50NoOption none "" ("=0$0." ∷ "bz8Y$" ∷ []) ":50:=0$0.\nbz8Y$") ∷
    by "F" "X\n1/ABDEFGHIJKLMNOPQRSTUVWXYZ012345" (ok Field50F (some "X") "" ("ABDEFGHIJKLMNOPQRSTUVWXYZ012345" ∷ []) ":50F:X\n1/ABDEFGHIJKLMNOPQRSTUVWXYZ012345") ∷
    without "ACM) LTD\n\u{7f} HIGH STREET\nLONDON" (no 3 2) ∷
    parse "XABCDEFGHIJKLMNOPQRSTUVWXYZ01234567\r\n1/ \r\n2/ABCDEFGHIJKLM~OPQRSTUVWXYZ0123456\r\n3/?c@<1x\r\n4/?_c&_" (no 11 0) ∷
    by "C" "y!z\n-#[[}'\n" (no 10 1) ∷
    by "F" "X=yB{A\r\n1/>C:{\r\n2/ABCDEFGHIJKLMNOPQRSTUVWXYZ012345\r\n3/ABCDEFGHIJKLMNOPQRSTUVWXYZ012345\r\n4/]B]}" (ok Field50F (some "X=yB{A") "" (">C:{" ∷ "ABCDEFGHIJKLMNOPQRSTUVWXYZ012345" ∷ "ABCDEFGHIJKLMNOPQRSTUVWXYZ012345" ∷ "]B]}" ∷ []) ":50F:X=yB{A\n1/>C:{\n2/ABCDEFGHIJKLMNOPQRSTUVWXYZ012345\n3/ABCDEFGHIJKLMNOPQRSTUVWXYZ012345\n4/]B]}") ∷
    parse "\n@/\"!\nB#\n(XB" (ok Field50NoOption none "" ("" ∷ "@/\"!" ∷ "B#" ∷ "(XB" ∷ []) ":50:\n@/\"!\nB#\n(XB") ∷
    by "F" "/(_Z8/ABCDEFGHIJKLMNOPQRSTUVWXYZ012345678\n1/ABCDEFGHIJKLMNOPQRSTUVWXYZ012345\r2/=" (no 2 1) ∷
    by "C" "AbCdEf12\n//\",*\n/ABCDEFGHIJKLMNOPQRSTUVWXYZ012345678\n UBSWCHZ0\n4/! 9\n//\r\n DEUTDEFF500" (no 9 1) ∷
    by "F" "X</}C/\n1/:c*?\n2/*+,!\n\n3/ABCDEFGHIJKLMNOPQ\n3/ABCDEFGHIJKLMNOPQRSTUVWXYZ012345" (no 5 4) ∷
    by "F" "NIDN/DE/1212~1234342\n1/MANN GEORG\n6/D" (no 3 1) ∷
    by "F" "X\n1/A\n2/A\n3/A\n4/ABCDEFGHIJKLMNOPQRSTUVW" (ok Field50F (some "X") "" ("A" ∷ "A" ∷ "A" ∷ "ABCDEFGHIJKLMNOPQRSTUVW" ∷ []) ":50F:X\n1/A\n2/A\n3/A\n4/ABCDEFGHIJKLMNOPQRSTUVW") ∷
    by "Y" "ABC\nEFGHIJ" (ok Field50NoOption none "" ("ABC" ∷ "EFGHIJ" ∷ []) ":50:ABC\nEFGHIJ") ∷
    by "C" "dABCD\nEFGH" (no 9 1) ∷
    without "X&,\n1/ABCDEFGHIJKLMNOPQRSTUVWXYZ012345\n2/\n3/_x\n4/" (no 1 0) ∷
    by "K" "" (no 11 0) ∷
    parse " DEUTDEFF500\r\n},}1\n2/{\n8/ABCDEFGHIJKLMNOPQRSTUVWXYZ01234567\n//ABCDEFGHIJKLMNOPQRSTUVWXYZ01234567" (no 11 0) ∷
    by "F" "X\r\n1/\u{7}" (no 3 2) ∷
    without "AB\u{7f}DFGHABCDEFGH" (no 3 1) ∷
    without "\r\nABCDEFGHIJKLMNOPQ^STUVbXYZ012345678" (no 3 2) ∷
    without "x}<X1\n" (ok Field50NoOption none "" ("x}<X1" ∷ []) ":50:x}<X1") ∷
    by "F" "ABCDEFGHIJKLMNOPQRSTUVWXYZ012345678\r deutdeff" (no 1 0) ∷
    parse "JOHN DOOE\r\nS?TREET \n5\r\n" (ok Field50NoOption none "" ("JOHN DOOE" ∷ "S?TREET " ∷ "5" ∷ []) ":50:JOHN DOOE\nS?TREET \n5") ∷
    parse "\rX#/\nCA#\n1/" (ok Field50NoOption none "" ("\rX#/" ∷ "CA#" ∷ "1/" ∷ []) ":50:\rX#/\nCA#\n1/") ∷
    by "F" "X!:!\r\n1/*cb'|\r\n2/ABC" (ok Field50F (some "X!:!") "" ("*cb'|" ∷ "ABC" ∷ []) ":50F:X!:!\n1/*cb'|\n2/ABC") ∷
    by "H" ":A0z{\r\n.\r\r\n" (ok Field50NoOption none "" (":A0z{" ∷ ".\r" ∷ []) ":50::A0z{\n.\r") ∷
    without "A\nCME LTD\n/  HIGH STREET\nLONDON" (ok Field50NoOption none "" ("A" ∷ "CME LTD" ∷ "/  HIGH STREET" ∷ "LONDON" ∷ []) ":50:A\nCME LTD\n/  HIGH STREET\nLONDON") ∷
    by "C" "/- )\r\n1/ABCDEFGHIJKLMNOPQRSTUVWXYZ0123456\n/>]B@$/\n\n4/b" (no 9 1) ∷
    by "C" "\n/:\r\n2/]9'\n2/\n//ABCDEFGHIJKLMNOPQRSTUVWXYZ01234567\n5/>9c\n/>" (no 9 1) ∷
    by "C" "//0.?\r/=>> " (no 10 1) ∷
    without ".cb)b\n\n 8()b\n\n 8(" (no 1 0) ∷
    parse "A\n\u{7f}A\\" (no 11 0) ∷
    by "C" "AbCdEf12\na<\n//_Y-\n/0|:b&\nUBSWCHZ0\nUBSWCHZ0\nABCDEFGHIJKLMNOPQRSTUVWXYZ012345678\n\n" (no 9 1) ∷
    by "F" "0/x,@" (no 1 0) ∷
    by "F" "X\n1/A\n" (ok Field50F (some "X") "" ("A" ∷ []) ":50F:X\n1/A") ∷
    without "A\nA\nA" (ok Field50NoOption none "" ("A" ∷ "A" ∷ "A" ∷ []) ":50:A\nA\nA") ∷
    by "F" "z%\r\n1/?b'\r\n" (ok Field50F (some "z%") "" ("?b'" ∷ []) ":50F:z%\n1/?b'") ∷
    []

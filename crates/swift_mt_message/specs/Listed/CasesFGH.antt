-- Made of crates/replay/stdin by tests/rust/listed: the cases of Field50OrderingCustomerFGH.
use Rattle.std.specs.Prelude.{List, [], ◌∷◌}
use Rattle.std.proofs.Math.Option.{some}
use Rattle.party.specs.declared.PartyOption.TheVariants.{Field50F, Field50G, Field50H}
use Rattle.swift_mt_message.specs.Cases.{Case, parse, without, by, ok, no}

abbrev pub cases : List Case
cases =
    parse "/~\nA" (no 11 0) ∷
    parse "/~\n1/A" (no 11 0) ∷
    parse "/~\nABCDEFGH" (no 11 0) ∷
    by "H" "/~\nA" (no 3 1) ∷
    without "/~\nA" (no 11 0) ∷
    by "A" "/~\nA" (no 11 0) ∷
    by "F" "" (no 1 0) ∷
    by "F" "\n1/A" (no 2 1) ∷
    by "F" "~\n1/A\n~" (no 3 1) ∷
    by "F" "X\n3/~\n~" (no 3 2) ∷
    by "F" "X\n2/A\n3/~\n~" (no 3 3) ∷
    by "F" "X\n2/A\n3/A\n3/~\n~" (no 3 4) ∷
    by "F" "X\n2/A\n3/A\n4/A\n3/~\n~" (no 3 5) ∷
    by "F" "X\n2/A\n3/A\n4/A\n5/A\n3/~\n~" (no 3 6) ∷
    by "F" "X\n2/A\n3/A\n4/A\n5/A\n6/A\n3/~\n~" (no 3 7) ∷
    by "F" "X\n2/A\n3/A\n4/A\n5/A\n6/A\n7/A\n3/~\n~" (no 3 8) ∷
    by "F" "X\n2/A\n3/A\n4/A\n5/A\n6/A\n7/A\n8/A\n3/~\n~" (no 3 9) ∷
    by "F" "X\n2/A\n3/A\n4/A\n5/A\n6/A\n7/A\n8/A\n9/A\n3/~\n~" (no 3 10) ∷
    by "F" "X\n2/A\n3/A\n4/A\n5/A\n6/A\n7/A\n8/A\n9/A\n0/A\n3/~\n~" (no 3 11) ∷
    by "F" "X\n2/A\n3/A\n4/A\n5/A\n6/A\n7/A\n8/A\n9/A\n0/A\n1/A\n2/A\n3/A\n4/A\n5/A\n6/A\n7/A\n8/A\n9/A\n0/A\n1/A\n2/A\n3/A\n4/A\n5/A\n6/A\n7/A\n8/A\n9/A\n0/A\n1/A\n2/A\n3/A\n4/A\n5/A\n6/A\n7/A\n8/A\n9/A\n3/~\n~" (no 3 40) ∷
    by "F" "X\n3/ABCDEFGHIJKLMNOPQRSTUVWXYZ01234567\n~" (no 4 2) ∷
    by "F" "X\n2/A\n3/ABCDEFGHIJKLMNOPQRSTUVWXYZ01234567\n~" (no 4 3) ∷
    by "F" "X\n2/A\n3/A\n3/ABCDEFGHIJKLMNOPQRSTUVWXYZ01234567\n~" (no 4 4) ∷
    by "F" "X\n2/A\n3/A\n4/A\n3/ABCDEFGHIJKLMNOPQRSTUVWXYZ01234567\n~" (no 4 5) ∷
    by "F" "X\n2/A\n3/A\n4/A\n5/A\n3/ABCDEFGHIJKLMNOPQRSTUVWXYZ01234567\n~" (no 4 6) ∷
    by "F" "X\n2/A\n3/A\n4/A\n5/A\n6/A\n3/ABCDEFGHIJKLMNOPQRSTUVWXYZ01234567\n~" (no 4 7) ∷
    by "F" "X\n2/A\n3/A\n4/A\n5/A\n6/A\n7/A\n3/ABCDEFGHIJKLMNOPQRSTUVWXYZ01234567\n~" (no 4 8) ∷
    by "F" "X\n2/A\n3/A\n4/A\n5/A\n6/A\n7/A\n8/A\n3/ABCDEFGHIJKLMNOPQRSTUVWXYZ01234567\n~" (no 4 9) ∷
    by "F" "X\n2/A\n3/A\n4/A\n5/A\n6/A\n7/A\n8/A\n9/A\n3/ABCDEFGHIJKLMNOPQRSTUVWXYZ01234567\n~" (no 4 10) ∷
    by "F" "X\n2/A\n3/A\n4/A\n5/A\n6/A\n7/A\n8/A\n9/A\n0/A\n3/ABCDEFGHIJKLMNOPQRSTUVWXYZ01234567\n~" (no 4 11) ∷
    by "F" "X\n2/A\n3/A\n4/A\n5/A\n6/A\n7/A\n8/A\n9/A\n0/A\n1/A\n2/A\n3/A\n4/A\n5/A\n6/A\n7/A\n8/A\n9/A\n0/A\n1/A\n2/A\n3/A\n4/A\n5/A\n6/A\n7/A\n8/A\n9/A\n0/A\n1/A\n2/A\n3/A\n4/A\n5/A\n6/A\n7/A\n8/A\n9/A\n3/ABCDEFGHIJKLMNOPQRSTUVWXYZ01234567\n~" (no 4 40) ∷
    by "F" "X\nA\n~" (no 5 2) ∷
    by "F" "X\n2/A\nA\n~" (no 5 3) ∷
    by "F" "X\n2/A\n3/A\nA\n~" (no 5 4) ∷
    by "F" "X\n2/A\n3/A\n4/A\nA\n~" (no 5 5) ∷
    by "F" "X\n2/A\n3/A\n4/A\n5/A\nA\n~" (no 5 6) ∷
    by "F" "X\n2/A\n3/A\n4/A\n5/A\n6/A\nA\n~" (no 5 7) ∷
    by "F" "X\n2/A\n3/A\n4/A\n5/A\n6/A\n7/A\nA\n~" (no 5 8) ∷
    by "F" "X\n2/A\n3/A\n4/A\n5/A\n6/A\n7/A\n8/A\nA\n~" (no 5 9) ∷
    by "F" "X\n2/A\n3/A\n4/A\n5/A\n6/A\n7/A\n8/A\n9/A\nA\n~" (no 5 10) ∷
    by "F" "X\n2/A\n3/A\n4/A\n5/A\n6/A\n7/A\n8/A\n9/A\n0/A\nA\n~" (no 5 11) ∷
    by "F" "X\n2/A\n3/A\n4/A\n5/A\n6/A\n7/A\n8/A\n9/A\n0/A\n1/A\n2/A\n3/A\n4/A\n5/A\n6/A\n7/A\n8/A\n9/A\n0/A\n1/A\n2/A\n3/A\n4/A\n5/A\n6/A\n7/A\n8/A\n9/A\n0/A\n1/A\n2/A\n3/A\n4/A\n5/A\n6/A\n7/A\n8/A\n9/A\nA\n~" (no 5 40) ∷
    by "F" "X\n1/A\n2/A\n3/A\n4/A\n5/A" (no 7 0) ∷
    by "G" "" (no 1 0) ∷
    by "G" "A\nABCDEFGH" (no 2 1) ∷
    by "G" "/~\nABCDEFGH" (no 3 1) ∷
    by "G" "/1\nABCDEFG" (no 9 2) ∷
    by "G" "/1\n1BCDEFGH" (no 10 2) ∷
    by "H" "" (no 1 0) ∷
    by "H" "A\nA" (no 2 1) ∷
    by "H" "/A\n~\n~" (no 3 2) ∷
    by "H" "/A\nA\n~\n~" (no 3 3) ∷
    by "H" "/A\nA\nA\n~\n~" (no 3 4) ∷
    by "H" "/A\nA\nA\nA\n~\n~" (no 3 5) ∷
    by "H" "/A\nA\nA\nA\nA\n~\n~" (no 3 6) ∷
    by "H" "/A\nA\nA\nA\nA\nA\n~\n~" (no 3 7) ∷
    by "H" "/A\nA\nA\nA\nA\nA\nA\n~\n~" (no 3 8) ∷
    by "H" "/A\nA\nA\nA\nA\nA\nA\nA\n~\n~" (no 3 9) ∷
    by "H" "/A\nA\nA\nA\nA\nA\nA\nA\nA\n~\n~" (no 3 10) ∷
    by "H" "/A\nA\nA\nA\nA\nA\nA\nA\nA\nA\n~\n~" (no 3 11) ∷
    by "H" "/A\nA\nA\nA\nA\nA\nA\nA\nA\nA\nA\nA\nA\nA\nA\nA\nA\nA\nA\nA\nA\nA\nA\nA\nA\nA\nA\nA\nA\nA\nA\nA\nA\nA\nA\nA\nA\nA\nA\n~\n~" (no 3 40) ∷
    by "H" "/A\nABCDEFGHIJKLMNOPQRSTUVWXYZ0123456789\n~" (no 4 2) ∷
    by "H" "/A\nA\nABCDEFGHIJKLMNOPQRSTUVWXYZ0123456789\n~" (no 4 3) ∷
    by "H" "/A\nA\nA\nABCDEFGHIJKLMNOPQRSTUVWXYZ0123456789\n~" (no 4 4) ∷
    by "H" "/A\nA\nA\nA\nABCDEFGHIJKLMNOPQRSTUVWXYZ0123456789\n~" (no 4 5) ∷
    by "H" "/A\nA\nA\nA\nA\nABCDEFGHIJKLMNOPQRSTUVWXYZ0123456789\n~" (no 4 6) ∷
    by "H" "/A\nA\nA\nA\nA\nA\nABCDEFGHIJKLMNOPQRSTUVWXYZ0123456789\n~" (no 4 7) ∷
    by "H" "/A\nA\nA\nA\nA\nA\nA\nABCDEFGHIJKLMNOPQRSTUVWXYZ0123456789\n~" (no 4 8) ∷
    by "H" "/A\nA\nA\nA\nA\nA\nA\nA\nABCDEFGHIJKLMNOPQRSTUVWXYZ0123456789\n~" (no 4 9) ∷
    by "H" "/A\nA\nA\nA\nA\nA\nA\nA\nA\nABCDEFGHIJKLMNOPQRSTUVWXYZ0123456789\n~" (no 4 10) ∷
    by "H" "/A\nA\nA\nA\nA\nA\nA\nA\nA\nA\nABCDEFGHIJKLMNOPQRSTUVWXYZ0123456789\n~" (no 4 11) ∷
    by "H" "/A\nA\nA\nA\nA\nA\nA\nA\nA\nA\nA\nA\nA\nA\nA\nA\nA\nA\nA\nA\nA\nA\nA\nA\nA\nA\nA\nA\nA\nA\nA\nA\nA\nA\nA\nA\nA\nA\nA\nABCDEFGHIJKLMNOPQRSTUVWXYZ0123456789\n~" (no 4 40) ∷
    by "H" "/A\nA\nA\nA\nA\nA" (no 7 0) ∷
    parse "X\n1/A" (ok Field50F (some "X") "" ("A" ∷ []) ":50F:X\n1/A") ∷
    parse "" (no 11 0) ∷
    parse "~" (no 11 0) ∷
    parse "/~\n~" (no 11 0) ∷
    parse "/GB82WEST12345698765432\n1/JOHN SMITH\n2/456 AVENUE\n3/GB/LONDON" (ok Field50F (some "/GB82WEST12345698765432") "" ("JOHN SMITH" ∷ "456 AVENUE" ∷ "GB/LONDON" ∷ []) ":50F:/GB82WEST12345698765432\n1/JOHN SMITH\n2/456 AVENUE\n3/GB/LONDON") ∷
    parse "NIDN/DE/121231234342\n1/MANN GEORG\n6/DE/ABC BANK/1234578293" (ok Field50F (some "NIDN/DE/121231234342") "" ("MANN GEORG" ∷ "DE/ABC BANK/1234578293" ∷ []) ":50F:NIDN/DE/121231234342\n1/MANN GEORG\n2/DE/ABC BANK/1234578293") ∷
    parse "/1\nABCDEFGH" (ok Field50G (some "1") "ABCDEFGH" [] ":50G:/1\nABCDEFGH") ∷
    parse "/12345678\nDEUTDEFF" (ok Field50G (some "12345678") "DEUTDEFF" [] ":50G:/12345678\nDEUTDEFF") ∷
    parse "/DE89370400440532013000\r\nDEUTDEFF500\r\n" (ok Field50G (some "DE89370400440532013000") "DEUTDEFF500" [] ":50G:/DE89370400440532013000\nDEUTDEFF500") ∷
    parse "/1\nA\nB" (ok Field50H (some "1") "" ("A" ∷ "B" ∷ []) ":50H:/1\nA\nB") ∷
    parse "/12345678\nJOHN DOE\n123 MAIN STREET" (ok Field50H (some "12345678") "" ("JOHN DOE" ∷ "123 MAIN STREET" ∷ []) ":50H:/12345678\nJOHN DOE\n123 MAIN STREET") ∷
    parse "/A\nONE\nTWO\nTHREE\nFOUR" (ok Field50H (some "A") "" ("ONE" ∷ "TWO" ∷ "THREE" ∷ "FOUR" ∷ []) ":50H:/A\nONE\nTWO\nTHREE\nFOUR") ∷
    without "X\n1/A" (ok Field50F (some "X") "" ("A" ∷ []) ":50F:X\n1/A") ∷
    without "" (no 11 0) ∷
    without "~" (no 11 0) ∷
    without "/~\n~" (no 11 0) ∷
    without "/GB82WEST12345698765432\n1/JOHN SMITH\n2/456 AVENUE\n3/GB/LONDON" (ok Field50F (some "/GB82WEST12345698765432") "" ("JOHN SMITH" ∷ "456 AVENUE" ∷ "GB/LONDON" ∷ []) ":50F:/GB82WEST12345698765432\n1/JOHN SMITH\n2/456 AVENUE\n3/GB/LONDON") ∷
    without "NIDN/DE/121231234342\n1/MANN GEORG\n6/DE/ABC BANK/1234578293" (ok Field50F (some "NIDN/DE/121231234342") "" ("MANN GEORG" ∷ "DE/ABC BANK/1234578293" ∷ []) ":50F:NIDN/DE/121231234342\n1/MANN GEORG\n2/DE/ABC BANK/1234578293") ∷
    without "/1\nABCDEFGH" (ok Field50G (some "1") "ABCDEFGH" [] ":50G:/1\nABCDEFGH") ∷
    without "/12345678\nDEUTDEFF" (ok Field50G (some "12345678") "DEUTDEFF" [] ":50G:/12345678\nDEUTDEFF") ∷
    without "/DE89370400440532013000\r\nDEUTDEFF500\r\n" (ok Field50G (some "DE89370400440532013000") "DEUTDEFF500" [] ":50G:/DE89370400440532013000\nDEUTDEFF500") ∷
    without "/1\nA\nB" (ok Field50H (some "1") "" ("A" ∷ "B" ∷ []) ":50H:/1\nA\nB") ∷
    without "/12345678\nJOHN DOE\n123 MAIN STREET" (ok Field50H (some "12345678") "" ("JOHN DOE" ∷ "123 MAIN STREET" ∷ []) ":50H:/12345678\nJOHN DOE\n123 MAIN STREET") ∷
    without "/A\nONE\nTWO\nTHREE\nFOUR" (ok Field50H (some "A") "" ("ONE" ∷ "TWO" ∷ "THREE" ∷ "FOUR" ∷ []) ":50H:/A\nONE\nTWO\nTHREE\nFOUR") ∷
    by "F" "X\n1/A" (ok Field50F (some "X") "" ("A" ∷ []) ":50F:X\n1/A") ∷
    by "F" "~" (no 1 0) ∷
    by "F" "/~\n~" (no 3 1) ∷
    by "F" "/GB82WEST12345698765432\n1/JOHN SMITH\n2/456 AVENUE\n3/GB/LONDON" (ok Field50F (some "/GB82WEST12345698765432") "" ("JOHN SMITH" ∷ "456 AVENUE" ∷ "GB/LONDON" ∷ []) ":50F:/GB82WEST12345698765432\n1/JOHN SMITH\n2/456 AVENUE\n3/GB/LONDON") ∷
    by "F" "NIDN/DE/121231234342\n1/MANN GEORG\n6/DE/ABC BANK/1234578293" (ok Field50F (some "NIDN/DE/121231234342") "" ("MANN GEORG" ∷ "DE/ABC BANK/1234578293" ∷ []) ":50F:NIDN/DE/121231234342\n1/MANN GEORG\n2/DE/ABC BANK/1234578293") ∷
    by "F" "/1\nABCDEFGH" (no 5 2) ∷
    by "F" "/12345678\nDEUTDEFF" (no 5 2) ∷
    by "F" "/DE89370400440532013000\r\nDEUTDEFF500\r\n" (no 5 2) ∷
    by "F" "/1\nA\nB" (no 5 2) ∷
    by "F" "/12345678\nJOHN DOE\n123 MAIN STREET" (no 5 2) ∷
    by "F" "/A\nONE\nTWO\nTHREE\nFOUR" (no 5 2) ∷
    by "G" "X\n1/A" (no 2 1) ∷
    by "G" "~" (no 1 0) ∷
    by "G" "/~\n~" (no 3 1) ∷
    by "G" "/GB82WEST12345698765432\n1/JOHN SMITH\n2/456 AVENUE\n3/GB/LONDON" (no 1 0) ∷
    by "G" "NIDN/DE/121231234342\n1/MANN GEORG\n6/DE/ABC BANK/1234578293" (no 1 0) ∷
    by "G" "/1\nABCDEFGH" (ok Field50G (some "1") "ABCDEFGH" [] ":50G:/1\nABCDEFGH") ∷
    by "G" "/12345678\nDEUTDEFF" (ok Field50G (some "12345678") "DEUTDEFF" [] ":50G:/12345678\nDEUTDEFF") ∷
    by "G" "/DE89370400440532013000\r\nDEUTDEFF500\r\n" (ok Field50G (some "DE89370400440532013000") "DEUTDEFF500" [] ":50G:/DE89370400440532013000\nDEUTDEFF500") ∷
    by "G" "/1\nA\nB" (no 1 0) ∷
    by "G" "/12345678\nJOHN DOE\n123 MAIN STREET" (no 1 0) ∷
    by "G" "/A\nONE\nTWO\nTHREE\nFOUR" (no 1 0) ∷
    by "H" "X\n1/A" (no 2 1) ∷
    by "H" "~" (no 1 0) ∷
    by "H" "/~\n~" (no 3 1) ∷
    by "H" "/GB82WEST12345698765432\n1/JOHN SMITH\n2/456 AVENUE\n3/GB/LONDON" (ok Field50H (some "GB82WEST12345698765432") "" ("1/JOHN SMITH" ∷ "2/456 AVENUE" ∷ "3/GB/LONDON" ∷ []) ":50H:/GB82WEST12345698765432\n1/JOHN SMITH\n2/456 AVENUE\n3/GB/LONDON") ∷
    by "H" "NIDN/DE/121231234342\n1/MANN GEORG\n6/DE/ABC BANK/1234578293" (no 2 1) ∷
    by "H" "/1\nABCDEFGH" (ok Field50H (some "1") "" ("ABCDEFGH" ∷ []) ":50H:/1\nABCDEFGH") ∷
    by "H" "/12345678\nDEUTDEFF" (ok Field50H (some "12345678") "" ("DEUTDEFF" ∷ []) ":50H:/12345678\nDEUTDEFF") ∷
    by "H" "/DE89370400440532013000\r\nDEUTDEFF500\r\n" (ok Field50H (some "DE89370400440532013000") "" ("DEUTDEFF500" ∷ []) ":50H:/DE89370400440532013000\nDEUTDEFF500") ∷
    by "H" "/1\nA\nB" (ok Field50H (some "1") "" ("A" ∷ "B" ∷ []) ":50H:/1\nA\nB") ∷
    by "H" "/12345678\nJOHN DOE\n123 MAIN STREET" (ok Field50H (some "12345678") "" ("JOHN DOE" ∷ "123 MAIN STREET" ∷ []) ":50H:/12345678\nJOHN DOE\n123 MAIN STREET") ∷
    by "H" "/A\nONE\nTWO\nTHREE\nFOUR" (ok Field50H (some "A") "" ("ONE" ∷ "TWO" ∷ "THREE" ∷ "FOUR" ∷ []) ":50H:/A\nONE\nTWO\nTHREE\nFOUR") ∷
    by "A" "X\n1/A" (ok Field50F (some "X") "" ("A" ∷ []) ":50F:X\n1/A") ∷
    by "B" "X\n1/A" (ok Field50F (some "X") "" ("A" ∷ []) ":50F:X\n1/A") ∷
    by "C" "X\n1/A" (ok Field50F (some "X") "" ("A" ∷ []) ":50F:X\n1/A") ∷
    by "K" "X\n1/A" (ok Field50F (some "X") "" ("A" ∷ []) ":50F:X\n1/A") ∷
    by "L" "X\n1/A" (ok Field50F (some "X") "" ("A" ∷ []) ":50F:X\n1/A") ∷
    by "Y" "X\n1/A" (ok Field50F (some "X") "" ("A" ∷ []) ":50F:X\n1/A") ∷
    by "Z" "X\n1/A" (ok Field50F (some "X") "" ("A" ∷ []) ":50F:X\n1/A") ∷
    by "A" "" (no 11 0) ∷
    by "A" "~" (no 11 0) ∷
    by "A" "/~\n~" (no 11 0) ∷
    by "A" "/GB82WEST12345698765432\n1/JOHN SMITH\n2/456 AVENUE\n3/GB/LONDON" (ok Field50F (some "/GB82WEST12345698765432") "" ("JOHN SMITH" ∷ "456 AVENUE" ∷ "GB/LONDON" ∷ []) ":50F:/GB82WEST12345698765432\n1/JOHN SMITH\n2/456 AVENUE\n3/GB/LONDON") ∷
    by "A" "NIDN/DE/121231234342\n1/MANN GEORG\n6/DE/ABC BANK/1234578293" (ok Field50F (some "NIDN/DE/121231234342") "" ("MANN GEORG" ∷ "DE/ABC BANK/1234578293" ∷ []) ":50F:NIDN/DE/121231234342\n1/MANN GEORG\n2/DE/ABC BANK/1234578293") ∷
    by "A" "/1\nABCDEFGH" (ok Field50G (some "1") "ABCDEFGH" [] ":50G:/1\nABCDEFGH") ∷
    by "A" "/12345678\nDEUTDEFF" (ok Field50G (some "12345678") "DEUTDEFF" [] ":50G:/12345678\nDEUTDEFF") ∷
    by "A" "/DE89370400440532013000\r\nDEUTDEFF500\r\n" (ok Field50G (some "DE89370400440532013000") "DEUTDEFF500" [] ":50G:/DE89370400440532013000\nDEUTDEFF500") ∷
    by "A" "/1\nA\nB" (ok Field50H (some "1") "" ("A" ∷ "B" ∷ []) ":50H:/1\nA\nB") ∷
    by "A" "/12345678\nJOHN DOE\n123 MAIN STREET" (ok Field50H (some "12345678") "" ("JOHN DOE" ∷ "123 MAIN STREET" ∷ []) ":50H:/12345678\nJOHN DOE\n123 MAIN STREET") ∷
    by "A" "/A\nONE\nTWO\nTHREE\nFOUR" (ok Field50H (some "A") "" ("ONE" ∷ "TWO" ∷ "THREE" ∷ "FOUR" ∷ []) ":50H:/A\nONE\nTWO\nTHREE\nFOUR") ∷
    by "a" "X\n1/A" (ok Field50F (some "X") "" ("A" ∷ []) ":50F:X\n1/A") ∷
    by "c" "X\n1/A" (ok Field50F (some "X") "" ("A" ∷ []) ":50F:X\n1/A") ∷
    by "f" "X\n1/A" (ok Field50F (some "X") "" ("A" ∷ []) ":50F:X\n1/A") ∷
    by "z" "X\n1/A" (ok Field50F (some "X") "" ("A" ∷ []) ":50F:X\n1/A") ∷
    by "0" "X\n1/A" (ok Field50F (some "X") "" ("A" ∷ []) ":50F:X\n1/A") ∷
    by "5" "X\n1/A" (ok Field50F (some "X") "" ("A" ∷ []) ":50F:X\n1/A") ∷
    by "9" "X\n1/A" (ok Field50F (some "X") "" ("A" ∷ []) ":50F:X\n1/A") ∷
    by "\u{1}" "X\n1/A" (ok Field50F (some "X") "" ("A" ∷ []) ":50F:X\n1/A") ∷
    by "\t" "X\n1/A" (ok Field50F (some "X") "" ("A" ∷ []) ":50F:X\n1/A") ∷
    by "\n" "X\n1/A" (ok Field50F (some "X") "" ("A" ∷ []) ":50F:X\n1/A") ∷
    by " " "X\n1/A" (ok Field50F (some "X") "" ("A" ∷ []) ":50F:X\n1/A") ∷
    by "/" "X\n1/A" (ok Field50F (some "X") "" ("A" ∷ []) ":50F:X\n1/A") ∷
    by ":" "X\n1/A" (ok Field50F (some "X") "" ("A" ∷ []) ":50F:X\n1/A") ∷
    by "@" "X\n1/A" (ok Field50F (some "X") "" ("A" ∷ []) ":50F:X\n1/A") ∷
    by "[" "X\n1/A" (ok Field50F (some "X") "" ("A" ∷ []) ":50F:X\n1/A") ∷
    by "`" "X\n1/A" (ok Field50F (some "X") "" ("A" ∷ []) ":50F:X\n1/A") ∷
    by "{" "X\n1/A" (ok Field50F (some "X") "" ("A" ∷ []) ":50F:X\n1/A") ∷
    by "~" "X\n1/A" (ok Field50F (some "X") "" ("A" ∷ []) ":50F:X\n1/A") ∷
    by "\u{7f}" "X\n1/A" (ok Field50F (some "X") "" ("A" ∷ []) ":50F:X\n1/A") ∷
    parse "/A" (no 11 0) ∷
    parse "/A\nA" (ok Field50H (some "A") "" ("A" ∷ []) ":50H:/A\nA") ∷
    parse "/A\nABCDEFGH" (ok Field50G (some "A") "ABCDEFGH" [] ":50G:/A\nABCDEFGH") ∷
    parse "/A\n1/A" (ok Field50F (some "/A") "" ("A" ∷ []) ":50F:/A\n1/A") ∷
    parse "/A\nA\nB" (ok Field50H (some "A") "" ("A" ∷ "B" ∷ []) ":50H:/A\nA\nB") ∷
    parse "/A\nA\n1/A" (ok Field50H (some "A") "" ("A" ∷ "1/A" ∷ []) ":50H:/A\nA\n1/A") ∷
    parse "/A\n1/A\nA" (ok Field50H (some "A") "" ("1/A" ∷ "A" ∷ []) ":50H:/A\n1/A\nA") ∷
    parse "/A\n1/A\n1/B" (ok Field50F (some "/A") "" ("A" ∷ "B" ∷ []) ":50F:/A\n1/A\n2/B") ∷
    parse "A" (no 11 0) ∷
    parse "A\nA" (no 11 0) ∷
    parse "A\nABCDEFGH" (no 11 0) ∷
    parse "A\n1/A" (ok Field50F (some "A") "" ("A" ∷ []) ":50F:A\n1/A") ∷
    parse "A\nA\nB" (no 11 0) ∷
    parse "A\nA\n1/A" (no 11 0) ∷
    parse "A\n1/A\nA" (no 11 0) ∷
    parse "A\n1/A\n1/B" (ok Field50F (some "A") "" ("A" ∷ "B" ∷ []) ":50F:A\n1/A\n2/B") ∷
    parse "\rX\n1/A" (ok Field50F (some "\rX") "" ("A" ∷ []) ":50F:\rX\n1/A") ∷
    parse "X\r\n1/A" (ok Field50F (some "X") "" ("A" ∷ []) ":50F:X\n1/A") ∷
    parse "X\n\r1/A" (no 11 0) ∷
    parse "X\n1\r/A" (no 11 0) ∷
    parse "X\n1/\rA" (ok Field50F (some "X") "" ("\rA" ∷ []) ":50F:X\n1/\rA") ∷
    parse "X\n1/A\r" (ok Field50F (some "X") "" ("A\r" ∷ []) ":50F:X\n1/A\r") ∷
    parse "\nX\n1/A" (no 11 0) ∷
    parse "X\n\n1/A" (no 11 0) ∷
    parse "X\n1\n/A" (no 11 0) ∷
    parse "X\n1/\nA" (no 11 0) ∷
    parse "X\n1/A\n" (ok Field50F (some "X") "" ("A" ∷ []) ":50F:X\n1/A") ∷
    parse "\r\nX\n1/A" (no 11 0) ∷
    parse "X\r\n\n1/A" (no 11 0) ∷
    parse "X\n\r\n1/A" (no 11 0) ∷
    parse "X\n1\r\n/A" (no 11 0) ∷
    parse "X\n1/\r\nA" (no 11 0) ∷
    parse "X\n1/A\r\n" (ok Field50F (some "X") "" ("A" ∷ []) ":50F:X\n1/A") ∷
    parse "\r\n1/A" (no 11 0) ∷
    parse "X\r1/A" (no 11 0) ∷
    parse "X\n\r/A" (no 11 0) ∷
    parse "X\n1\rA" (no 11 0) ∷
    parse "X\n1/\r" (ok Field50F (some "X") "" ("\r" ∷ []) ":50F:X\n1/\r") ∷
    parse "\n\n1/A" (no 11 0) ∷
    parse "X\n\n/A" (no 11 0) ∷
    parse "X\n1\nA" (no 11 0) ∷
    parse "X\n1/\n" (ok Field50F (some "X") "" ("" ∷ []) ":50F:X\n1/") ∷
    parse "\r/1\nABCDEFGH" (no 11 0) ∷
    parse "/\r1\nABCDEFGH" (ok Field50G (some "\r1") "ABCDEFGH" [] ":50G:/\r1\nABCDEFGH") ∷
    parse "/1\r\nABCDEFGH" (ok Field50G (some "1") "ABCDEFGH" [] ":50G:/1\nABCDEFGH") ∷
    parse "/1\n\rABCDEFGH" (ok Field50H (some "1") "" ("\rABCDEFGH" ∷ []) ":50H:/1\n\rABCDEFGH") ∷
    parse "/1\nA\rBCDEFGH" (ok Field50H (some "1") "" ("A\rBCDEFGH" ∷ []) ":50H:/1\nA\rBCDEFGH") ∷
    parse "/1\nAB\rCDEFGH" (ok Field50H (some "1") "" ("AB\rCDEFGH" ∷ []) ":50H:/1\nAB\rCDEFGH") ∷
    parse "/1\nABC\rDEFGH" (ok Field50H (some "1") "" ("ABC\rDEFGH" ∷ []) ":50H:/1\nABC\rDEFGH") ∷
    parse "/1\nABCD\rEFGH" (ok Field50H (some "1") "" ("ABCD\rEFGH" ∷ []) ":50H:/1\nABCD\rEFGH") ∷
    parse "/1\nABCDE\rFGH" (ok Field50H (some "1") "" ("ABCDE\rFGH" ∷ []) ":50H:/1\nABCDE\rFGH") ∷
    parse "/1\nABCDEF\rGH" (ok Field50H (some "1") "" ("ABCDEF\rGH" ∷ []) ":50H:/1\nABCDEF\rGH") ∷
    parse "/1\nABCDEFG\rH" (ok Field50H (some "1") "" ("ABCDEFG\rH" ∷ []) ":50H:/1\nABCDEFG\rH") ∷
    parse "/1\nABCDEFGH\r" (ok Field50H (some "1") "" ("ABCDEFGH\r" ∷ []) ":50H:/1\nABCDEFGH\r") ∷
    parse "\n/1\nABCDEFGH" (no 11 0) ∷
    parse "/\n1\nABCDEFGH" (no 11 0) ∷
    parse "/1\n\nABCDEFGH" (ok Field50H (some "1") "" ("" ∷ "ABCDEFGH" ∷ []) ":50H:/1\n\nABCDEFGH") ∷
    parse "/1\nA\nBCDEFGH" (ok Field50H (some "1") "" ("A" ∷ "BCDEFGH" ∷ []) ":50H:/1\nA\nBCDEFGH") ∷
    parse "/1\nAB\nCDEFGH" (ok Field50H (some "1") "" ("AB" ∷ "CDEFGH" ∷ []) ":50H:/1\nAB\nCDEFGH") ∷
    parse "/1\nABC\nDEFGH" (ok Field50H (some "1") "" ("ABC" ∷ "DEFGH" ∷ []) ":50H:/1\nABC\nDEFGH") ∷
    parse "/1\nABCD\nEFGH" (ok Field50H (some "1") "" ("ABCD" ∷ "EFGH" ∷ []) ":50H:/1\nABCD\nEFGH") ∷
    parse "/1\nABCDE\nFGH" (ok Field50H (some "1") "" ("ABCDE" ∷ "FGH" ∷ []) ":50H:/1\nABCDE\nFGH") ∷
    parse "/1\nABCDEF\nGH" (ok Field50H (some "1") "" ("ABCDEF" ∷ "GH" ∷ []) ":50H:/1\nABCDEF\nGH") ∷
    parse "/1\nABCDEFG\nH" (ok Field50H (some "1") "" ("ABCDEFG" ∷ "H" ∷ []) ":50H:/1\nABCDEFG\nH") ∷
    parse "/1\nABCDEFGH\n" (ok Field50G (some "1") "ABCDEFGH" [] ":50G:/1\nABCDEFGH") ∷
    parse "\r\n/1\nABCDEFGH" (no 11 0) ∷
    parse "/\r\n1\nABCDEFGH" (no 11 0) ∷
    parse "/1\r\n\nABCDEFGH" (ok Field50H (some "1") "" ("" ∷ "ABCDEFGH" ∷ []) ":50H:/1\n\nABCDEFGH") ∷
    parse "/1\n\r\nABCDEFGH" (ok Field50H (some "1") "" ("" ∷ "ABCDEFGH" ∷ []) ":50H:/1\n\nABCDEFGH") ∷
    parse "/1\nA\r\nBCDEFGH" (ok Field50H (some "1") "" ("A" ∷ "BCDEFGH" ∷ []) ":50H:/1\nA\nBCDEFGH") ∷
    parse "/1\nAB\r\nCDEFGH" (ok Field50H (some "1") "" ("AB" ∷ "CDEFGH" ∷ []) ":50H:/1\nAB\nCDEFGH") ∷
    parse "/1\nABC\r\nDEFGH" (ok Field50H (some "1") "" ("ABC" ∷ "DEFGH" ∷ []) ":50H:/1\nABC\nDEFGH") ∷
    parse "/1\nABCD\r\nEFGH" (ok Field50H (some "1") "" ("ABCD" ∷ "EFGH" ∷ []) ":50H:/1\nABCD\nEFGH") ∷
    parse "/1\nABCDE\r\nFGH" (ok Field50H (some "1") "" ("ABCDE" ∷ "FGH" ∷ []) ":50H:/1\nABCDE\nFGH") ∷
    parse "/1\nABCDEF\r\nGH" (ok Field50H (some "1") "" ("ABCDEF" ∷ "GH" ∷ []) ":50H:/1\nABCDEF\nGH") ∷
    parse "/1\nABCDEFG\r\nH" (ok Field50H (some "1") "" ("ABCDEFG" ∷ "H" ∷ []) ":50H:/1\nABCDEFG\nH") ∷
    parse "/1\nABCDEFGH\r\n" (ok Field50G (some "1") "ABCDEFGH" [] ":50G:/1\nABCDEFGH") ∷
    parse "\r1\nABCDEFGH" (no 11 0) ∷
    parse "/\r\nABCDEFGH" (no 11 0) ∷
    parse "/1\rABCDEFGH" (no 11 0) ∷
    parse "/1\n\rBCDEFGH" (ok Field50H (some "1") "" ("\rBCDEFGH" ∷ []) ":50H:/1\n\rBCDEFGH") ∷
    parse "/1\nA\rCDEFGH" (ok Field50H (some "1") "" ("A\rCDEFGH" ∷ []) ":50H:/1\nA\rCDEFGH") ∷
    parse "/1\nAB\rDEFGH" (ok Field50H (some "1") "" ("AB\rDEFGH" ∷ []) ":50H:/1\nAB\rDEFGH") ∷
    parse "/1\nABC\rEFGH" (ok Field50H (some "1") "" ("ABC\rEFGH" ∷ []) ":50H:/1\nABC\rEFGH") ∷
    parse "/1\nABCD\rFGH" (ok Field50H (some "1") "" ("ABCD\rFGH" ∷ []) ":50H:/1\nABCD\rFGH") ∷
    parse "/1\nABCDE\rGH" (ok Field50H (some "1") "" ("ABCDE\rGH" ∷ []) ":50H:/1\nABCDE\rGH") ∷
    parse "/1\nABCDEF\rH" (ok Field50H (some "1") "" ("ABCDEF\rH" ∷ []) ":50H:/1\nABCDEF\rH") ∷
    parse "/1\nABCDEFG\r" (ok Field50H (some "1") "" ("ABCDEFG\r" ∷ []) ":50H:/1\nABCDEFG\r") ∷
    parse "\n1\nABCDEFGH" (no 11 0) ∷
    parse "/\n\nABCDEFGH" (no 11 0) ∷
    parse "/1\n\nBCDEFGH" (ok Field50H (some "1") "" ("" ∷ "BCDEFGH" ∷ []) ":50H:/1\n\nBCDEFGH") ∷
    parse "/1\nA\nCDEFGH" (ok Field50H (some "1") "" ("A" ∷ "CDEFGH" ∷ []) ":50H:/1\nA\nCDEFGH") ∷
    parse "/1\nAB\nDEFGH" (ok Field50H (some "1") "" ("AB" ∷ "DEFGH" ∷ []) ":50H:/1\nAB\nDEFGH") ∷
    parse "/1\nABC\nEFGH" (ok Field50H (some "1") "" ("ABC" ∷ "EFGH" ∷ []) ":50H:/1\nABC\nEFGH") ∷
    parse "/1\nABCD\nFGH" (ok Field50H (some "1") "" ("ABCD" ∷ "FGH" ∷ []) ":50H:/1\nABCD\nFGH") ∷
    parse "/1\nABCDE\nGH" (ok Field50H (some "1") "" ("ABCDE" ∷ "GH" ∷ []) ":50H:/1\nABCDE\nGH") ∷
    parse "/1\nABCDEF\nH" (ok Field50H (some "1") "" ("ABCDEF" ∷ "H" ∷ []) ":50H:/1\nABCDEF\nH") ∷
    parse "/1\nABCDEFG\n" (ok Field50H (some "1") "" ("ABCDEFG" ∷ []) ":50H:/1\nABCDEFG") ∷
    parse "\r/1\nA\nB" (no 11 0) ∷
    parse "/\r1\nA\nB" (ok Field50H (some "\r1") "" ("A" ∷ "B" ∷ []) ":50H:/\r1\nA\nB") ∷
    parse "/1\r\nA\nB" (ok Field50H (some "1") "" ("A" ∷ "B" ∷ []) ":50H:/1\nA\nB") ∷
    parse "/1\n\rA\nB" (ok Field50H (some "1") "" ("\rA" ∷ "B" ∷ []) ":50H:/1\n\rA\nB") ∷
    parse "/1\nA\r\nB" (ok Field50H (some "1") "" ("A" ∷ "B" ∷ []) ":50H:/1\nA\nB") ∷
    parse "/1\nA\n\rB" (ok Field50H (some "1") "" ("A" ∷ "\rB" ∷ []) ":50H:/1\nA\n\rB") ∷
    parse "/1\nA\nB\r" (ok Field50H (some "1") "" ("A" ∷ "B\r" ∷ []) ":50H:/1\nA\nB\r") ∷
    parse "\n/1\nA\nB" (no 11 0) ∷
    parse "/\n1\nA\nB" (no 11 0) ∷
    parse "/1\n\nA\nB" (ok Field50H (some "1") "" ("" ∷ "A" ∷ "B" ∷ []) ":50H:/1\n\nA\nB") ∷
    parse "/1\nA\n\nB" (ok Field50H (some "1") "" ("A" ∷ "" ∷ "B" ∷ []) ":50H:/1\nA\n\nB") ∷
    parse "/1\nA\nB\n" (ok Field50H (some "1") "" ("A" ∷ "B" ∷ []) ":50H:/1\nA\nB") ∷
    parse "\r\n/1\nA\nB" (no 11 0) ∷
    parse "/\r\n1\nA\nB" (no 11 0) ∷
    parse "/1\r\n\nA\nB" (ok Field50H (some "1") "" ("" ∷ "A" ∷ "B" ∷ []) ":50H:/1\n\nA\nB") ∷
    parse "/1\n\r\nA\nB" (ok Field50H (some "1") "" ("" ∷ "A" ∷ "B" ∷ []) ":50H:/1\n\nA\nB") ∷
    parse "/1\nA\r\n\nB" (ok Field50H (some "1") "" ("A" ∷ "" ∷ "B" ∷ []) ":50H:/1\nA\n\nB") ∷
    parse "/1\nA\n\r\nB" (ok Field50H (some "1") "" ("A" ∷ "" ∷ "B" ∷ []) ":50H:/1\nA\n\nB") ∷
    parse "/1\nA\nB\r\n" (ok Field50H (some "1") "" ("A" ∷ "B" ∷ []) ":50H:/1\nA\nB") ∷
    parse "\r1\nA\nB" (no 11 0) ∷
    parse "/\r\nA\nB" (no 11 0) ∷
    parse "/1\rA\nB" (ok Field50H (some "1\rA") "" ("B" ∷ []) ":50H:/1\rA\nB") ∷
    parse "/1\n\r\nB" (ok Field50H (some "1") "" ("" ∷ "B" ∷ []) ":50H:/1\n\nB") ∷
    parse "/1\nA\rB" (ok Field50H (some "1") "" ("A\rB" ∷ []) ":50H:/1\nA\rB") ∷
    parse "/1\nA\n\r" (ok Field50H (some "1") "" ("A" ∷ "\r" ∷ []) ":50H:/1\nA\n\r") ∷
    parse "\n1\nA\nB" (no 11 0) ∷
    parse "/\n\nA\nB" (no 11 0) ∷
    parse "/1\n\n\nB" (ok Field50H (some "1") "" ("" ∷ "" ∷ "B" ∷ []) ":50H:/1\n\n\nB") ∷
    parse "/1\nA\n\n" (ok Field50H (some "1") "" ("A" ∷ "" ∷ []) ":50H:/1\nA\n") ∷
    parse "/A\nABCDEFGHIJKLMNOPQRSTUVWXYZ0123456789ABCDEFGHIJKLMNOPQRSTUVWXYZ0123456789ABCDEFGHIJKLMNOPQRSTUVWXYZ0123456789ABCDEFGHIJKLMNOPQRSTUVWXYZ0123456789ABCDEFGHIJKLMNOPQRSTUVWXYZ0123456789ABCDEFGHIJKLMNOPQRSTUVWXYZ0123456789ABCDEFGHIJKLMNOPQRSTUVWXYZ0123456789ABCDEFGHIJKLMNOPQRSTUVWXYZ0123456789ABCDEFGHIJKLMNOPQRSTUVWXYZ0123456789ABCDEFGHIJKLMNOPQRSTUVWXYZ0123456789ABCDEFGHIJKLMNOPQRSTUVWXYZ0123456789ABCDEFGHIJKLMNOPQRSTUVWXYZ0123456789ABCDEFGHIJKLMNOPQRSTUVWXYZ0123456789ABCDEFGHIJKLMNOPQRSTUVWXYZ0123456789ABCDEFGHIJKLMNOPQRSTUVWXYZ0123456789ABCDEFGHIJKLMNOPQRSTUVWXYZ0123456789ABCDEFGHIJKLMNOPQRSTUVWXYZ0123456789ABCDEFGHIJKLMNOPQRSTUVWXYZ0123456789ABCDEFGHIJKLMNOPQRSTUVWXYZ0123456789ABCDEFGHIJKLMNOPQRSTUVWXYZ0123456789ABCDEFGHIJKLMNOPQRSTUVWXYZ0123456789ABCDEFGHIJKLMNOPQRSTUVWXYZ0123456789ABCDEFGHIJKLMNOPQRSTUVWXYZ0123456789ABCDEFGHIJKLMNOPQRSTUVWXYZ0123456789ABCDEFGHIJKLMNOPQRSTUVWXYZ0123456789ABCDEFGHIJKLMNOPQRSTUVWXYZ0123456789ABCDEFGHIJKLMNOPQRSTUVWXYZ0123456789ABCDEFGHIJKLMNOPQRSTUVWXYZ0123456789ABCDEFGHIJKLMNOPQRSTUVWXYZ0123456789ABCDEFGHIJKLMNOPQRSTUVWXYZ0123456789ABCDEFGHIJKLMNOPQRSTUVWXYZ0123456789ABCDEFGHIJKLMNOPQRSTUVWXYZ0123456789ABCDEFGHIJKLMNOPQRSTUVWXYZ0123456789ABCDEFGHIJKLMNOPQRSTUVWXYZ0123456789ABCDEFGHIJKLMNOPQRSTUVWXYZ0123456789ABCDEFGHIJKLMNOPQRSTUVWXYZ0123456789ABCDEFGHIJKLMNOPQRSTUVWXYZ0123456789ABCDEFGHIJKLMNOPQRSTUVWXYZ0123456789ABCDEFGHIJKLMNOPQRSTUVWXYZ0123456789ABCDEFGHIJKLMNOPQRSTUVWXYZ0123456789ABCDEFGHIJKLMNOPQRSTUVWXYZ0123456789ABCDEFGHIJKLMNOPQRSTUVWXYZ0123456789ABCDEFGHIJKLMNOPQRSTUVWXYZ0123456789ABCDEFGHIJKLMNOPQRSTUVWXYZ0123456789ABCDEFGHIJKLMNOPQRSTUVWXYZ0123456789ABCDEFGHIJKLMNOPQRSTUVWXYZ0123456789ABCDEFGHIJKLMNOPQRSTUVWXYZ0123456789ABCDEFGHIJKLMNOPQRSTUVWXYZ0123456789ABCDEFGHIJKLMNOPQRSTUVWXYZ0123456789ABCDEFGHIJKLMNOPQRSTUVWXYZ0123456789ABCDEFGHIJKLMNOPQRSTUVWXYZ0123456789ABCDEFGHIJKLMNOPQRSTUVWXYZ0123456789ABCDEFGHIJKLMNOPQRSTUVWXYZ0123456789ABCDEFGHIJKLMNOPQRSTUVWXYZ0123456789ABCDEFGHIJKLMNOPQRSTUVWXYZ0123456789ABCDEFGHIJKLMNOPQRSTUVWXYZ0123456789ABCDEFGHIJKLMNOPQRSTUVWXYZ012" (no 11 0) ∷
    by "G" "\nABCDEFGHIJKLMNOPQRSTUVWXYZ0123456789\n9/ABCDEFGHIJKLMNOPQRSTUVWXYZ01234567" (no 1 0) ∷
    parse "NIDN/DE/121231234342\n1/MANN GEORG\n6/DE/ABC BANK/1234BANK/1234578293" (ok Field50F (some "NIDN/DE/121231234342") "" ("MANN GEORG" ∷ "DE/ABC BANK/1234BANK/1234578293" ∷ []) ":50F:NIDN/DE/121231234342\n1/MANN GEORG\n2/DE/ABC BANK/1234BANK/1234578293") ∷
    by "F" "NIDN/DE/121231234342\n1/MANN GEORG\n6/DE/ABCBANK/1234578293" (ok Field50F (some "NIDN/DE/121231234342") "" ("MANN GEORG" ∷ "DE/ABCBANK/1234578293" ∷ []) ":50F:NIDN/DE/121231234342\n1/MANN GEORG\n2/DE/ABCBANK/1234578293") ∷
    by "H" "/Z\r\n5/ABCDEFGHIJKLMNOPQRSTUVWXYZ0123456" (ok Field50H (some "Z") "" ("5/ABCDEFGHIJKLMNOPQRSTUVWXYZ0123456" ∷ []) ":50H:/Z\n5/ABCDEFGHIJKLMNOPQRSTUVWXYZ0123456") ∷
    parse "k1\nABC" (no 11 0) ∷
    by "Z" "\n1/\rA" (no 11 0) ∷
    parse "ABCDEFGHIJKLMNOPQRSTUVWXYZ01234567\rABCDEFGHIJKL\rABCDEFGH" (no 11 0) ∷
    by "B" "/~\nBCD\tEFGH" (no 11 0) ∷
    by "F" "/GB82WEST12345\r98765432\n1/JOHN SMITH\n2/456 AVENUE\n3/GB/LONDON" (ok Field50F (some "/GB82WEST12345\r98765432") "" ("JOHN SMITH" ∷ "456 AVENUE" ∷ "GB/LONDON" ∷ []) ":50F:/GB82WEST12345\r98765432\n1/JOHN SMITH\n2/456 AVENUE\n3/GB/LONDON") ∷
    without "\nA\nONE\nTWO\nTHREE\nFOAR" (no 11 0) ∷
    parse "/X\nABCDEFG^HH" (no 11 0) ∷
    by "L" "/X%\ry%(X" (no 11 0) ∷
    by "G" "/123F45678\nDEU-DEFF" (no 10 2) ∷
    by "H" "/6\n@" (ok Field50H (some "6") "" ("@" ∷ []) ":50H:/6\n@") ∷
    by "Z" "/X\n\"\" /11\n\"C8aA$\nzY  \u{7f}B\nABCDEFGHIJKLM\\OPQ\tSTUVWXYZ012345678" (no 11 0) ∷
    by "F" "/y.0\n'&-x\nABCDEFGHIJKLMNOPQRSTUVWXYZ012345678\na[)!x\n" (no 5 2) ∷
    by "A" "1/1\nABCDEFGH/1\nABCDKEFGH" (no 11 0) ∷
    by "H" "/ \nA\nB" (ok Field50H (some " ") "" ("A" ∷ "B" ∷ []) ":50H:/ \nA\nB") ∷
    by "F" "X1/" (no 1 0) ∷
    parse "X: \r\n1/.][[\r\n2/ABCD FGHIKLMNOPQRSTUVWXYZ0123456\r\n3/0!<#\r\n4/Y" (ok Field50F (some "X: ") "" (".][[" ∷ "ABCD FGHIKLMNOPQRSTUVWXYZ0123456" ∷ "0!<#" ∷ "Y" ∷ []) ":50F:X: \n1/.][[\n2/ABCD FGHIKLMNOPQRSTUVWXYZ0123456\n3/0!<#\n4/Y") ∷
    by "H" "\n\n" (no 2 1) ∷
    parse "^1\n\0" (no 11 0) ∷
    by "F" "/ABCDEFGHBCDEFGHIJKLMNOPQRSTUVWXYZ01234567" (no 1 0) ∷
    without "\r\n" (no 11 0) ∷
    by "H" "\r\n" (no 1 0) ∷
    without "/X$$-(\"\nZ+)c,\n,\n!*_\n" (ok Field50H (some "X$$-(\"") "" ("Z+)c," ∷ "," ∷ "!*_" ∷ []) ":50H:/X$$-(\"\nZ+)c,\n,\n!*_") ∷
    by "G" "/A\nABCDzFGH\n\n" (no 1 0) ∷
    by "H" "/A\nONE\nTWO\nTHREE\nFU\nFOUR" (no 7 0) ∷
    by "G" "\\/X?!)\r\nAbCdEf12" (no 2 1) ∷
    by "H" "/ABCDEFGHIJKLMNOPQRSTUVWXYZ012345678\n/ABCDEFGHIJKLMNOPQRSTUVWXYZ01234567\nABCDEFGHIJKLMNOPQRSTUVWXYZ012345678\nABCDEFGHIJ\r/ABCDEFGHIJKLMNOPQRSTUVWXYZ01234567\n ABCDEFGH\n+" (no 2 1) ∷
    by "Y" "/X<)B9-\n_\n<)B9-\n_\n9\\!9\n\\b\n}C!/A1" (no 11 0) ∷
    parse "X(?(\n1/)\n2/9'XG$8!" (ok Field50F (some "X(?(") "" (")" ∷ "9'XG$8!" ∷ []) ":50F:X(?(\n1/)\n2/9'XG$8!") ∷
    by "L" "0/#$\r\n0/ABCDEFGHIJKLMNOPQRSTUVWXYZ01234567\r\n UBSWCHZ0\rABCDEFGHIJKLMNOPQRSTUVWXYZ0123456789" (no 11 0) ∷
    without "\0_\n1/;1\n2/ABCDEFGHIJKLMNOPQRSTUVWXY_\n1/;1\n2/ABCDEFGHIJKLMNOPQRSTUVWXYZ" (no 11 0) ∷
    by "F" "/\nAB" (no 5 2) ∷
    without "/Xz(\r\n>*)81\r\nYZ}!0\r\n;'z\r\r\n;'z\r\n}+a?C" (no 11 0) ∷
    by "Y" "X=z9)\n1/,c\n\n2/[B'" (no 11 0) ∷
    by "G" "/1\nABCDEF)G\\GH" (no 10 2) ∷
    by "F" "\r\n9/\n2/y%a\n3/*)|\n UBSWCHZ0\r\nABCDEFGHIJKLMNOPQRSTUVWXYZ01234567\n" (no 2 1) ∷
    parse "/12395678\nJOH$N DOE\nDOE\n123 MAIN STREET" (ok Field50H (some "12395678") "" ("JOH$N DOE" ∷ "DOE" ∷ "123 MAIN STREET" ∷ []) ":50H:/12395678\nJOH$N DOE\nDOE\n123 MAIN STREET") ∷
    without "/E89370400440532013000\r\nDE0440532013000\r\nDEUTDEFF500\r\n" (ok Field50H (some "E89370400440532013000") "" ("DE0440532013000" ∷ "DEUTDEFF500" ∷ []) ":50H:/E89370400440532013000\nDE0440532013000\nDEUTDEFF500") ∷
    without "/\r1/Y#9B[\r\n/}.+\n" (ok Field50H (some "\r1/Y#9B[") "" ("/}.+" ∷ []) ":50H:/\r1/Y#9B[\n/}.+") ∷
    by "G" "/y\"1!<b\r\n//Y</y\n deutdeff\nABCDEFGH\r" (no 1 0) ∷
    without "X\"_9({+\n1/C:,\n2/ *:?Y\n3/%!,].\n4/(yz[\n" (ok Field50F (some "X\"_9({+") "" ("C:," ∷ " *:?Y" ∷ "%!,]." ∷ "(yz[" ∷ []) ":50F:X\"_9({+\n1/C:,\n2/ *:?Y\n3/%!,].\n4/(yz[") ∷
    by "F" "/GB\n82WEST12345698765432\n1/JHN SMITH\n2/456 AVENUE\n3/GB/LONDON" (no 5 2) ∷
    without "X9+>x{Y\n1/ZC*" (ok Field50F (some "X9+>x{Y") "" ("ZC*" ∷ []) ":50F:X9+>x{Y\n1/ZC*") ∷
    by "H" "\n1/,#X%\n/a1x\nUBSWCHZ0\n4/18=\n/A_[!01/a8\n\n" (no 2 1) ∷
    by "G" "/DE89370400440532013 000\r\nDEU0400440532013000\r\nDEUTDEFF500\r\n" (no 1 0) ∷
    by "H" "X\n1^\n\u{19}/A" (no 2 1) ∷
    parse "0/[_\n\n" (no 11 0) ∷
    without "/X\ndeutdeff\n" (ok Field50G (some "X") "deutdeff" [] ":50G:/X\ndeutdeff") ∷
    by "G" "/12345678\nDEUTDEFF12315678\nDEUTDEFF" (no 1 0) ∷
    parse "XB-c}x[\n1/A\n2/{0Z $\n3" (no 11 0) ∷
    by "F" "//&%#C9Z\n/$}#\n/y " (no 5 2) ∷
    without "ABCDEFGHIJ\r\n//:,$[/\n2/ " (no 11 0) ∷
    by "G" "//@\r\n/>/8\n/8?|/a$" (no 1 0) ∷
    without " ABCDEFGH\rDEUTDEFF500\r/A{xA,-\n DEUTDEFF500\n" (no 11 0) ∷
    by "H" "/X-Z-\r\n[\r\n }\r\n\r3\n:(B?bA" (ok Field50H (some "X-Z-") "" ("[" ∷ " }" ∷ "\r3" ∷ ":(B?bA" ∷ []) ":50H:/X-Z-\n[\n }\n\r3\n:(B?bA") ∷
    without "/XABCDEFGHIJKLM\rOPQRSTUVWXYZ012345\r\nABCDEF123Z012345\r\nABCDEF123" (ok Field50H (some "XABCDEFGHIJKLM\rOPQRSTUVWXYZ012345") "" ("ABCDEF123Z012345" ∷ "ABCDEF123" ∷ []) ":50H:/XABCDEFGHIJKLM\rOPQRSTUVWXYZ012345\nABCDEF123Z012345\nABCDEF123") ∷
    by "A" "3/ABCDEFGHIJKLMNOPQRSTUVWXYZ01234567\n\rABCDEFGHIJ\r/0[\r3/?-&\rABCDEFGHIJKLMNOPQRSTUVWXYZ012345678\r\n" (no 11 0) ∷
    by "F" "X%C$Y\r\n1/8/%Xy\r\n2/b_+ \r\n3/ABCDEFGHIJKLMNOPQRSTUVWXYZ0123456" (ok Field50F (some "X%C$Y") "" ("8/%Xy" ∷ "b_+ " ∷ "ABCDEFGHIJKLMNOPQRSTUVWXYZ0123456" ∷ []) ":50F:X%C$Y\n1/8/%Xy\n2/b_+ \n3/ABCDEFGHIJKLMNOPQRSTUVWXYZ0123456") ∷
    by "G" "/=z&\"(1" (no 1 0) ∷
    by "G" "/1\nMBCDEFGH" (ok Field50G (some "1") "MBCDEFGH" [] ":50G:/1\nMBCDEFGH") ∷
    parse "XABCDEFGHIJKLMNOPQRSTUVWXYZ0123456\r\n1/ABCDEFGHIJ" (ok Field50F (some "XABCDEFGHIJKLMNOPQRSTUVWXYZ0123456") "" ("ABCDEFGHIJ" ∷ []) ":50F:XABCDEFGHIJKLMNOPQRSTUVWXYZ0123456\n1/ABCDEFGHIJ") ∷
    by "L" "/(cZ=.a\n DEUTDEFF500\n//8$A\r'\n/<>&Xz\nUBSWCHZ0" (ok Field50H (some "(cZ=.a") "" (" DEUTDEFF500" ∷ "//8$A\r'" ∷ "/<>&Xz" ∷ "UBSWCHZ0" ∷ []) ":50H:/(cZ=.a\n DEUTDEFF500\n//8$A\r'\n/<>&Xz\nUBSWCHZ0") ∷
    without "U\\\n1/A" (no 11 0) ∷
    parse "/X\u{7f}\n-/oB\nY,\n" (no 11 0) ∷
    by "A" "ABCDEFGHI\n2/[(X" (ok Field50F (some "ABCDEFGHI") "" ("[(X" ∷ []) ":50F:ABCDEFGHI\n1/[(X") ∷
    by "H" "/X1\rX\nABCDEFGHIJKLMNOPQRSTUVWXYZ01234567\nABCDEFGHIJKLMNOPQR" (ok Field50H (some "X1\rX") "" ("ABCDEFGHIJKLMNOPQRSTUVWXYZ01234567" ∷ "ABCDEFGHIJKLMNOPQR" ∷ []) ":50H:/X1\rX\nABCDEFGHIJKLMNOPQRSTUVWXYZ01234567\nABCDEFGHIJKLMNOPQR") ∷
    by "H" "/X{;\"-Y+\r\n\r\nABCDEFGHIJKLMNOPQRSTUVWXYZ01234567\r\n:" (ok Field50H (some "X{;\"-Y+") "" ("" ∷ "ABCDEFGHIJKLMNOPQRSTUVWXYZ01234567" ∷ ":" ∷ []) ":50H:/X{;\"-Y+\n\nABCDEFGHIJKLMNOPQRSTUVWXYZ01234567\n:") ∷
    by "B" "/X\ndeutdeff" (ok Field50G (some "X") "deutdeff" [] ":50G:/X\ndeutdeff") ∷
    by "F" "X\ry]ca9\r\n1/*,0\r" (ok Field50F (some "X\ry]ca9") "" ("*,0\r" ∷ []) ":50F:X\ry]ca9\n1/*,0\r") ∷
    by "H" " ABCDEFGH" (no 1 0) ∷
    by "C" "/0\n" (no 11 0) ∷
    without "5/ABCDEFGHIJKLMNOPQRSTUVWXYZ0123456\ndeutdeff\n//\n" (no 11 0) ∷
    parse "/8&9\n1/_a@?b#\n ABCDEFGH" (ok Field50H (some "8&9") "" ("1/_a@?b#" ∷ " ABCDEFGH" ∷ []) ":50H:/8&9\n1/_a@?b#\n ABCDEFGH") ∷
    by "A" "/ABCDEFGHIJKLM9NOPQ/RSTUVWXYZ0123456789\nA" (no 11 0) ∷
    by "L" "AbCdEf12\n//*;\r2/ABCDEFGHIJKLMNOPQRSTUVWXYZ012345" (no 11 0) ∷
    parse "/1\nABCDEFG^" (no 11 0) ∷
    without "NID~N/DE/121231234342\n1/MANN GEORG\n6/DE/ABC BANK/12" (no 11 0) ∷
    by "G" "/ XABCDEFGHIJKLMNOPQRSTUVWXYZ\t12345\r\nBb11\r\nABCDEFGHIJKLMNOPQRSTUVWXYZ01234567\r\n0\r\n" (no 1 0) ∷
    by "Z" "NIDN/DE/121231234342\n1/MANN GzOR\nG\n6/DE/ABC BANK/1234578293" (no 11 0) ∷
    by "H" "/1\n\u{7f}A\n" (no 3 2) ∷
    without "=<8<\n4/ABCDEFGHIJKLMNOPQRSTUVWXYZ0123456\n" (ok Field50F (some "=<8<") "" ("ABCDEFGHIJKLMNOPQRSTUVWXYZ0123456" ∷ []) ":50F:=<8<\n1/ABCDEFGHIJKLMNOPQRSTUVWXYZ0123456") ∷
    by "Y" "/X{\nABCDEFGHIJKLMNOPQRSTUVWXYZ01234567" (ok Field50H (some "X{") "" ("ABCDEFGHIJKLMNOPQRSTUVWXYZ01234567" ∷ []) ":50H:/X{\nABCDEFGHIJKLMNOPQRSTUVWXYZ01234567") ∷
    by "H" "/X{(\n:{*\nABCDEFGHIJKLMNOPQRSTUVWXY" (ok Field50H (some "X{(") "" (":{*" ∷ "ABCDEFGHIJKLMNOPQRSTUVWXY" ∷ []) ":50H:/X{(\n:{*\nABCDEFGHIJKLMNOPQRSTUVWXY") ∷
    parse "/Xa\r\nDEUTDEFF500" (ok Field50G (some "Xa") "DEUTDEFF500" [] ":50G:/Xa\nDEUTDEFF500") ∷
    by "A" "/X\\*a\ndeutseff" (no 11 0) ∷
    without "/ABCDEF" (no 11 0) ∷
    by "H" "/\\1\nA\nB" (no 3 1) ∷
    by "F" "NIDN/DE/121231234342\n1/MANN GEORG\n6/DE/ABC B2\n1/MANN GEORG\n6/DE/ABC BANK/1234578293" (ok Field50F (some "NIDN/DE/121231234342") "" ("MANN GEORG" ∷ "DE/ABC B2" ∷ "MANN GEORG" ∷ "DE/ABC BANK/1234578293" ∷ []) ":50F:NIDN/DE/121231234342\n1/MANN GEORG\n2/DE/ABC B2\n3/MANN GEORG\n4/DE/ABC BANK/1234578293") ∷
    by "F" "X\n1/ABCDEFGHIJKLM?NOPQRSTUVWXYZ012345\n2/a|\0" (no 3 3) ∷
    by "H" "/XABCDEFGHIJKLMNOPQRSTUVWXYZ012456\nZ\n<X\"0\n@C1z9" (ok Field50H (some "XABCDEFGHIJKLMNOPQRSTUVWXYZ012456") "" ("Z" ∷ "<X\"0" ∷ "@C1z9" ∷ []) ":50H:/XABCDEFGHIJKLMNOPQRSTUVWXYZ012456\nZ\n<X\"0\n@C1z9") ∷
    by "G" "\n\n" (no 2 1) ∷
    parse " deutdeff" (no 11 0) ∷
    by "C" "/XB\n*z|A(\nABCB\n*z|A(\nABCDEF\u{7f}HIJKLMNOPQRSTQRSTUVWXYZ01234567\n" (no 11 0) ∷
    parse "/ABCDEFGHIJKLMNOPQRSTUVW\\XYZ0123456789\nA" (no 11 0) ∷
    by "H" "/GB82WES12345698765432\n1/JOHN SMITH\n2/456 AVENUE\n3/GB/LONDON" (ok Field50H (some "GB82WES12345698765432") "" ("1/JOHN SMITH" ∷ "2/456 AVENUE" ∷ "3/GB/LONDON" ∷ []) ":50H:/GB82WES12345698765432\n1/JOHN SMITH\n2/456 AVENUE\n3/GB/LONDON") ∷
    parse "/XX\nABCDEFGH" (ok Field50G (some "XX") "ABCDEFGH" [] ":50G:/XX\nABCDEFGH") ∷
    parse "/+/\r\n//ABCDEFGHIJKLMNOPQRSTUVWXYZ012345678\nABCDEFGH\n\rABCDEFGHIJKL\n" (no 11 0) ∷
    by "A" "X-" (no 11 0) ∷
    by "K" "//ABCDEFGHIJKLMNOPQRSTUVWXYZ012345678\r\n ABCDEFGH\n2/|<;'%\r\n9/ABCDEFGHIJKLMNOPQRSTUVWXYZ01234567\r!\"?b:: " (no 11 0) ∷
    without "/%\n\r\n" (ok Field50H (some "%") "" ("" ∷ []) ":50H:/%\n") ∷
    by "H" "/X#18\n-]/8\n}<-/\n\nABCDEFGHIJKLMNOPQRSTUVWXYZ012345678\n" (ok Field50H (some "X#18") "" ("-]/8" ∷ "}<-/" ∷ "" ∷ "ABCDEFGHIJKLMNOPQRSTUVWXYZ012345678" ∷ []) ":50H:/X#18\n-]/8\n}<-/\n\nABCDEFGHIJKLMNOPQRSTUVWXYZ012345678") ∷
    without "/X-.0X&=\nKdetdeff\n" (ok Field50G (some "X-.0X&=") "Kdetdeff" [] ":50G:/X-.0X&=\nKdetdeff") ∷
    without "\n" (no 11 0) ∷
    without "/@z+c\n1/ABCDEFGHIJKLMNOPQRSTUVWXYZ0123456\r" (no 11 0) ∷
    without "/X@y\nc9Xa\n8;_#X\nX</." (ok Field50H (some "X@y") "" ("c9Xa" ∷ "8;_#X" ∷ "X</." ∷ []) ":50H:/X@y\nc9Xa\n8;_#X\nX</.") ∷
    parse "0//\n. y*C\nABCDEF123AZ\n ABCDEFGH\r\n/zA8,/ABCDEFGHIJKLMNOPQRSTUVWXYZ01234567\r" (no 11 0) ∷
    by "H" "n/A\n\n\n\nB" (no 2 1) ∷
    without "X\ndeutdeff\r/.xYy90/%0!\r" (no 11 0) ∷
    by "F" "ABCDEFGH\n/8:a[+\r//+\"%X9\r\n/ABCDEFGHIJKLMNOPQRSTUVWXYZ01234567\n ABCDEFGH\n/=::8" (no 5 2) ∷
    by "G" "0/1+\nABCDEFGHIJKLMNOPQRSTUVWXYZ0123456789\n_" (no 1 0) ∷
    by "H" "ABCDEFGHI\r<%-}}+\r\n\r\n deutdeff\rABCDEFGHIJKLMNOPQRSTUVWXYZ01234567\n//[-)}/\n//{X)" (no 2 1) ∷
    by "G" "\u{7f}/XABCDEFGHIJK\0LNOPQRSTUVWXYZ0123456\ndeutdeff\n" (no 2 1) ∷
    by "G" "/1\nABCDDEFG0H" (no 9 2) ∷
    without "ABCDEFGHIJKLMNOPQRSTUVWXYZ0123456789\n\r \n AbCdEf12 " (no 11 0) ∷
    by "C" "X\r\n1/C\r\n2//'b+!b+!" (ok Field50F (some "X") "" ("C" ∷ "/'b+!b+!" ∷ []) ":50F:X\n1/C\n2//'b+!b+!") ∷
    by "Y" "X\n1/ABCDEFGHIJKLMNOPQRSTUVWXYZ012345\n2/ABCDEFGHIJKLNOPQRSTUVWXYZ012345\n3/*](xyz" (ok Field50F (some "X") "" ("ABCDEFGHIJKLMNOPQRSTUVWXYZ012345" ∷ "ABCDEFGHIJKLNOPQRSTUVWXYZ012345" ∷ "*](xyz" ∷ []) ":50F:X\n1/ABCDEFGHIJKLMNOPQRSTUVWXYZ012345\n2/ABCDEFGHIJKLNOPQRSTUVWXYZ012345\n3/*](xyz") ∷
    by "Y" "" (no 11 0) ∷
    by "F" "X9X_\n1/ABCDEFGHIJKLMNOPQARSTUVWXYZ012345\n2/$=Z9," (ok Field50F (some "X9X_") "" ("ABCDEFGHIJKLMNOPQARSTUVWXYZ012345" ∷ "$=Z9," ∷ []) ":50F:X9X_\n1/ABCDEFGHIJKLMNOPQARSTUVWXYZ012345\n2/$=Z9,") ∷
    by "B" "/1\nABC" (ok Field50H (some "1") "" ("ABC" ∷ []) ":50H:/1\nABC") ∷
    by "G" "/;c-\n//=\r DEUTDEFF500\n/AB/cz9 z\n/(( b]\r\n/ABCDEFGHIJKLMNOPQRSTUVWXYZ012345678" (no 1 0) ∷
    by "H" "/A\nONE\nTWO\nTHTHR" (ok Field50H (some "A") "" ("ONE" ∷ "TWO" ∷ "THTHR" ∷ []) ":50H:/A\nONE\nTWO\nTHTHR") ∷
    by "H" "/A\n A\nA\nA&\nA" (ok Field50H (some "A") "" (" A" ∷ "A" ∷ "A&" ∷ "A" ∷ []) ":50H:/A\n A\nA\nA&\nA") ∷
    without "/ABCDEMGHIJKLMNOPQRSTUWXYZ012345678" (no 11 0) ∷
    by "H" "/X;\nABCDEGGHIJKLMNOPQRSTUVWX\u{7f}Z01X\u{7f}Z012345678\n_xyB\n-?,A\n" (no 4 2) ∷
    parse "/XX,AB\r\nUBSWCHZ\r0" (ok Field50H (some "XX,AB") "" ("UBSWCHZ\r0" ∷ []) ":50H:/XX,AB\nUBSWCHZ\r0") ∷
    parse "/XBx<a\nABCDEFGHIJKLMNOPQRSTUVWXYZ01\r345678\n0?\n*[\n.<+|" (ok Field50H (some "XBx<a") "" ("ABCDEFGHIJKLMNOPQRSTUVWXYZ01\r345678" ∷ "0?" ∷ "*[" ∷ ".<+|" ∷ []) ":50H:/XBx<a\nABCDEFGHIJKLMNOPQRSTUVWXYZ01\r345678\n0?\n*[\n.<+|") ∷
    by "G" "/|8A}/\r\ndeutdeff}/\r\ndeutdeff\r\n" (no 1 0) ∷
    by "L" "/1234506~78\nDEU" (no 11 0) ∷
    without "/A\nABCDEFGHIJ\u{4}" (no 11 0) ∷
    by "C" "/ABCDEFGHIJKLMNOPQRSTUVWXYZ012345678\n/)\r\n4/z" (no 11 0) ∷
    by "F" "X=C\n1/>*X" (ok Field50F (some "X=C") "" (">*X" ∷ []) ":50F:X=C\n1/>*X") ∷
    parse "/X*%[x1\n\u{1d}BCDEFGHIJKL\rNOPQRSTUVWXYZ01234567\nABCDEFGHIJKLMNOPQ\rSTUVWXYZ012345678\n" (no 11 0) ∷
    by "F" "X;0{=)\n1/&<#+=\n2/yZ}Z(z\n3/\n4/C8'-" (ok Field50F (some "X;0{=)") "" ("&<#+=" ∷ "yZ}Z(z" ∷ "" ∷ "C8'-" ∷ []) ":50F:X;0{=)\n1/&<#+=\n2/yZ}Z(z\n3/\n4/C8'-") ∷
    by "F" "\r1/x0AX*&\n/|;:/ABCDEFGHIJKLMNOPQRSTUVWXYZ01234567\n\n/)9\r\n/+\r\n" (no 5 2) ∷
    by "Y" "X/X\r\n1/ <&>\r\n2/ABCDEF\u{7f}HIJKLMNO\u{7f}QRSTUVWXYZ0123456" (no 11 0) ∷
    by "H" "/\n" (no 1 0) ∷
    by "F" "X]_\r\n1/ABCDEFGHIJKLMNOPQRSTUVWXYZ0123456\r\n2/ABCDEFG" (ok Field50F (some "X]_") "" ("ABCDEFGHIJKLMNOPQRSTUVWXYZ0123456" ∷ "ABCDEFG" ∷ []) ":50F:X]_\n1/ABCDEFGHIJKLMNOPQRSTUVWXYZ0123456\n2/ABCDEFG") ∷
    parse "X]8<\n1/z+\n2/z)[c@\n3/@x@\u{5}0" (no 11 0) ∷
    by "G" "/1\nABCD" (no 9 2) ∷
    without "/rA\n/NE\nTWO\nTH9REE\nFOUR" (ok Field50H (some "rA") "" ("/NE" ∷ "TWO" ∷ "TH9REE" ∷ "FOUR" ∷ []) ":50H:/rA\n/NE\nTWO\nTH9REE\nFOUR") ∷
    parse "\r/,%8]\n//&-|!\nABCDEF123AZ\n4/Z8${\r ABCDEFGH" (no 11 0) ∷
    by "H" "0/\01\nA\nB" (no 2 1) ∷
    parse "/DE89^370400440532013000\r\nDEUTDEFFe500\r\n" (no 11 0) ∷
    by "H" "0/@X)\n|#_\r\n!/|+" (no 2 1) ∷
    by "A" "ABCDEFGH\nABCDEFG\r\n/ /ABCDEFGHIJKLMNOPQRSTUVWXYZ01234567\r\n/A/,((\rABCDEFGHIJK" (no 11 0) ∷
    by "F" "X=}\r\n1/:9;}1\rX=}\r\n1/:9;}1\r\n2/ABCDEFGHIJKLMNOPQRSTU:VWXYZ012345" (ok Field50F (some "X=}") "" (":9;}1\rX=}" ∷ ":9;}1" ∷ "ABCDEFGHIJKLMNOPQRSTU:VWXYZ012345" ∷ []) ":50F:X=}\n1/:9;}1\rX=}\n2/:9;}1\n3/ABCDEFGHIJKLMNOPQRSTU:VWXYZ012345") ∷
    without "XABCDEFGHIJKLMNOPQRSTUVWXYZ0123456\n1/ABCDEFGHIJKLMNOPQRSTUV/WXYZ0123456\n2/B!ZC\n3/ABCDEFGHIJKLMNOPQRSTUVWXYZ0123456" (no 11 0) ∷
    by "F" "/X<:Z*+\r\n\r\n&X\r\n>#,X[\"\r\n" (no 5 2) ∷
    by "G" "0/'#$%a\r//Y\n//Z?(\n3/b;\rABCDEFGHIJKLMNOPQRSTUVWXYZ012345678\r\n5/ABCDEFGHIJKLMNOPQRSTUVWXYZ012345\n/!{" (no 1 0) ∷
    by "F" "\r\n\n" (no 2 1) ∷
    by "F" "ABCDEFGHIJ\n1/,'B&_$\r\n ABCDEF123AZ" (no 5 3) ∷
    by "G" "/XCa+c\r\nDEUTDEFF500" (ok Field50G (some "XCa+c") "DEUTDEFF500" [] ":50G:/XCa+c\nDEUTDEFF500") ∷
    without "2/ B\r\n+<\"Z\n/=YB\r3/>9\nABCDEFGHIJK\r\n ABCDEFGH" (no 11 0) ∷
    []

-- Made of crates/replay/stdin by tests/rust/listed: the cases of Field50OrderingCustomerAFK.
use Rattle.std.specs.Prelude.{List, [], ◌∷◌}
use Rattle.std.proofs.Math.Option.{none, some}
use Rattle.party.specs.declared.PartyOption.TheVariants.{Field50A, Field50F, Field50K}
use Rattle.swift_mt_message.specs.Cases.{Case, parse, without, by, ok, no}

abbrev pub cases : List Case
cases =
    parse "JOHNDOES\nSTREETAB" (ok Field50A none "JOHNDOES" [] ":50A:JOHNDOES") ∷
    by "F" "" (no 1 0) ∷
    by "F" "\n1/A" (no 2 1) ∷
    by "F" "~\n1/A\n~" (no 3 1) ∷
    by "F" "X\n3/~\n~" (no 3 2) ∷
    by "F" "X\n2/A\n3/~\n~" (no 3 3) ∷
    by "F" "X\n2/A\n3/A\n3/~\n~" (no 3 4) ∷
    by "F" "X\n2/A\n3/A\n4/A\n3/~\n~" (no 3 5) ∷
    by "F" "X\n2/A\n3/A\n4/A\n5/A\n3/~\n~" (no 3 6) ∷
    by "F" "X\n2/A\n3/A\n4/A\n5/A\n6/A\n3/~\n~" (no 3 7) ∷
    by "F" "X\n2/A\n3/A\n4/A\n5/A\n6/A\n7/A\n3/~\n~" (no 3 8) ∷
    by "F" "X\n2/A\n3/A\n4/A\n5/A\n6/A\n7/A\n8/A\n3/~\n~" (no 3 9) ∷
    by "F" "X\n2/A\n3/A\n4/A\n5/A\n6/A\n7/A\n8/A\n9/A\n3/~\n~" (no 3 10) ∷
    by "F" "X\n2/A\n3/A\n4/A\n5/A\n6/A\n7/A\n8/A\n9/A\n0/A\n3/~\n~" (no 3 11) ∷
    by "F" "X\n2/A\n3/A\n4/A\n5/A\n6/A\n7/A\n8/A\n9/A\n0/A\n1/A\n2/A\n3/A\n4/A\n5/A\n6/A\n7/A\n8/A\n9/A\n0/A\n1/A\n2/A\n3/A\n4/A\n5/A\n6/A\n7/A\n8/A\n9/A\n0/A\n1/A\n2/A\n3/A\n4/A\n5/A\n6/A\n7/A\n8/A\n9/A\n3/~\n~" (no 3 40) ∷
    by "F" "X\n3/ABCDEFGHIJKLMNOPQRSTUVWXYZ01234567\n~" (no 4 2) ∷
    by "F" "X\n2/A\n3/ABCDEFGHIJKLMNOPQRSTUVWXYZ01234567\n~" (no 4 3) ∷
    by "F" "X\n2/A\n3/A\n3/ABCDEFGHIJKLMNOPQRSTUVWXYZ01234567\n~" (no 4 4) ∷
    by "F" "X\n2/A\n3/A\n4/A\n3/ABCDEFGHIJKLMNOPQRSTUVWXYZ01234567\n~" (no 4 5) ∷
    by "F" "X\n2/A\n3/A\n4/A\n5/A\n3/ABCDEFGHIJKLMNOPQRSTUVWXYZ01234567\n~" (no 4 6) ∷
    by "F" "X\n2/A\n3/A\n4/A\n5/A\n6/A\n3/ABCDEFGHIJKLMNOPQRSTUVWXYZ01234567\n~" (no 4 7) ∷
    by "F" "X\n2/A\n3/A\n4/A\n5/A\n6/A\n7/A\n3/ABCDEFGHIJKLMNOPQRSTUVWXYZ01234567\n~" (no 4 8) ∷
    by "F" "X\n2/A\n3/A\n4/A\n5/A\n6/A\n7/A\n8/A\n3/ABCDEFGHIJKLMNOPQRSTUVWXYZ01234567\n~" (no 4 9) ∷
    by "F" "X\n2/A\n3/A\n4/A\n5/A\n6/A\n7/A\n8/A\n9/A\n3/ABCDEFGHIJKLMNOPQRSTUVWXYZ01234567\n~" (no 4 10) ∷
    by "F" "X\n2/A\n3/A\n4/A\n5/A\n6/A\n7/A\n8/A\n9/A\n0/A\n3/ABCDEFGHIJKLMNOPQRSTUVWXYZ01234567\n~" (no 4 11) ∷
    by "F" "X\n2/A\n3/A\n4/A\n5/A\n6/A\n7/A\n8/A\n9/A\n0/A\n1/A\n2/A\n3/A\n4/A\n5/A\n6/A\n7/A\n8/A\n9/A\n0/A\n1/A\n2/A\n3/A\n4/A\n5/A\n6/A\n7/A\n8/A\n9/A\n0/A\n1/A\n2/A\n3/A\n4/A\n5/A\n6/A\n7/A\n8/A\n9/A\n3/ABCDEFGHIJKLMNOPQRSTUVWXYZ01234567\n~" (no 4 40) ∷
    by "F" "X\nA\n~" (no 5 2) ∷
    by "F" "X\n2/A\nA\n~" (no 5 3) ∷
    by "F" "X\n2/A\n3/A\nA\n~" (no 5 4) ∷
    by "F" "X\n2/A\n3/A\n4/A\nA\n~" (no 5 5) ∷
    by "F" "X\n2/A\n3/A\n4/A\n5/A\nA\n~" (no 5 6) ∷
    by "F" "X\n2/A\n3/A\n4/A\n5/A\n6/A\nA\n~" (no 5 7) ∷
    by "F" "X\n2/A\n3/A\n4/A\n5/A\n6/A\n7/A\nA\n~" (no 5 8) ∷
    by "F" "X\n2/A\n3/A\n4/A\n5/A\n6/A\n7/A\n8/A\nA\n~" (no 5 9) ∷
    by "F" "X\n2/A\n3/A\n4/A\n5/A\n6/A\n7/A\n8/A\n9/A\nA\n~" (no 5 10) ∷
    by "F" "X\n2/A\n3/A\n4/A\n5/A\n6/A\n7/A\n8/A\n9/A\n0/A\nA\n~" (no 5 11) ∷
    by "F" "X\n2/A\n3/A\n4/A\n5/A\n6/A\n7/A\n8/A\n9/A\n0/A\n1/A\n2/A\n3/A\n4/A\n5/A\n6/A\n7/A\n8/A\n9/A\n0/A\n1/A\n2/A\n3/A\n4/A\n5/A\n6/A\n7/A\n8/A\n9/A\n0/A\n1/A\n2/A\n3/A\n4/A\n5/A\n6/A\n7/A\n8/A\n9/A\nA\n~" (no 5 40) ∷
    by "F" "X\n1/A\n2/A\n3/A\n4/A\n5/A" (no 7 0) ∷
    by "A" "" (no 1 0) ∷
    by "A" "//\nABCDEFGH" (no 2 1) ∷
    by "A" "/~\nABCDEFGH" (no 3 1) ∷
    by "A" "/A" (no 8 0) ∷
    by "A" "ABCDEFG" (no 9 1) ∷
    by "A" "/C/1\nABCDEFG" (no 9 2) ∷
    by "A" "1BCDEFGH" (no 10 1) ∷
    by "A" "/C/1\n1BCDEFGH" (no 10 2) ∷
    by "K" "" (no 1 0) ∷
    by "K" "/ABCDEFGHIJKLMNOPQRSTUVWXYZ0123456789\nA" (no 2 1) ∷
    by "K" "~\n~" (no 3 1) ∷
    by "K" "A\n~\n~" (no 3 2) ∷
    by "K" "A\nA\n~\n~" (no 3 3) ∷
    by "K" "A\nA\nA\n~\n~" (no 3 4) ∷
    by "K" "A\nA\nA\nA\n~\n~" (no 3 5) ∷
    by "K" "A\nA\nA\nA\nA\n~\n~" (no 3 6) ∷
    by "K" "A\nA\nA\nA\nA\nA\n~\n~" (no 3 7) ∷
    by "K" "A\nA\nA\nA\nA\nA\nA\n~\n~" (no 3 8) ∷
    by "K" "A\nA\nA\nA\nA\nA\nA\nA\n~\n~" (no 3 9) ∷
    by "K" "A\nA\nA\nA\nA\nA\nA\nA\nA\n~\n~" (no 3 10) ∷
    by "K" "A\nA\nA\nA\nA\nA\nA\nA\nA\nA\n~\n~" (no 3 11) ∷
    by "K" "A\nA\nA\nA\nA\nA\nA\nA\nA\nA\nA\nA\nA\nA\nA\nA\nA\nA\nA\nA\nA\nA\nA\nA\nA\nA\nA\nA\nA\nA\nA\nA\nA\nA\nA\nA\nA\nA\nA\n~\n~" (no 3 40) ∷
    by "K" "ABCDEFGHIJKLMNOPQRSTUVWXYZ0123456789\n~" (no 4 1) ∷
    by "K" "A\nABCDEFGHIJKLMNOPQRSTUVWXYZ0123456789\n~" (no 4 2) ∷
    by "K" "A\nA\nABCDEFGHIJKLMNOPQRSTUVWXYZ0123456789\n~" (no 4 3) ∷
    by "K" "A\nA\nA\nABCDEFGHIJKLMNOPQRSTUVWXYZ0123456789\n~" (no 4 4) ∷
    by "K" "A\nA\nA\nA\nABCDEFGHIJKLMNOPQRSTUVWXYZ0123456789\n~" (no 4 5) ∷
    by "K" "A\nA\nA\nA\nA\nABCDEFGHIJKLMNOPQRSTUVWXYZ0123456789\n~" (no 4 6) ∷
    by "K" "A\nA\nA\nA\nA\nA\nABCDEFGHIJKLMNOPQRSTUVWXYZ0123456789\n~" (no 4 7) ∷
    by "K" "A\nA\nA\nA\nA\nA\nA\nABCDEFGHIJKLMNOPQRSTUVWXYZ0123456789\n~" (no 4 8) ∷
    by "K" "A\nA\nA\nA\nA\nA\nA\nA\nABCDEFGHIJKLMNOPQRSTUVWXYZ0123456789\n~" (no 4 9) ∷
    by "K" "A\nA\nA\nA\nA\nA\nA\nA\nA\nABCDEFGHIJKLMNOPQRSTUVWXYZ0123456789\n~" (no 4 10) ∷
    by "K" "A\nA\nA\nA\nA\nA\nA\nA\nA\nA\nABCDEFGHIJKLMNOPQRSTUVWXYZ0123456789\n~" (no 4 11) ∷
    by "K" "A\nA\nA\nA\nA\nA\nA\nA\nA\nA\nA\nA\nA\nA\nA\nA\nA\nA\nA\nA\nA\nA\nA\nA\nA\nA\nA\nA\nA\nA\nA\nA\nA\nA\nA\nA\nA\nA\nA\nABCDEFGHIJKLMNOPQRSTUVWXYZ0123456789\n~" (no 4 40) ∷
    by "K" "/A" (no 7 0) ∷
    parse "X\n1/A" (ok Field50F (some "X") "" ("A" ∷ []) ":50F:X\n1/A") ∷
    parse "" (no 11 0) ∷
    parse "~" (no 11 0) ∷
    parse "/~\n~" (no 11 0) ∷
    parse "/GB82WEST12345698765432\n1/JOHN SMITH\n2/456 AVENUE\n3/GB/LONDON" (ok Field50F (some "/GB82WEST12345698765432") "" ("JOHN SMITH" ∷ "456 AVENUE" ∷ "GB/LONDON" ∷ []) ":50F:/GB82WEST12345698765432\n1/JOHN SMITH\n2/456 AVENUE\n3/GB/LONDON") ∷
    parse "NIDN/DE/121231234342\n1/MANN GEORG\n6/DE/ABC BANK/1234578293" (ok Field50F (some "NIDN/DE/121231234342") "" ("MANN GEORG" ∷ "DE/ABC BANK/1234578293" ∷ []) ":50F:NIDN/DE/121231234342\n1/MANN GEORG\n2/DE/ABC BANK/1234578293") ∷
    parse "ABCDEFGH" (ok Field50A none "ABCDEFGH" [] ":50A:ABCDEFGH") ∷
    parse "/DE89370400440532013000\nDEUTDEFF" (ok Field50A (some "DE89370400440532013000") "DEUTDEFF" [] ":50A:/DE89370400440532013000\nDEUTDEFF") ∷
    parse "/C/12345678\nDEUTDEFF500\nNOT READ" (ok Field50K (some "C/12345678") "" ("DEUTDEFF500" ∷ "NOT READ" ∷ []) ":50K:/C/12345678\nDEUTDEFF500\nNOT READ") ∷
    parse "//CH123456\nUBSWCHZH80A" (ok Field50A (some "/CH123456") "UBSWCHZH80A" [] ":50A://CH123456\nUBSWCHZH80A") ∷
    parse "abcdef12" (ok Field50A none "abcdef12" [] ":50A:abcdef12") ∷
    parse "A\nB" (ok Field50K none "" ("A" ∷ "B" ∷ []) ":50K:A\nB") ∷
    parse "/DE89370400440532013000\nJOHN DOE\n123 MAIN STREET\nBERLIN" (ok Field50K (some "DE89370400440532013000") "" ("JOHN DOE" ∷ "123 MAIN STREET" ∷ "BERLIN" ∷ []) ":50K:/DE89370400440532013000\nJOHN DOE\n123 MAIN STREET\nBERLIN") ∷
    parse "JOHN DOE\r\n123 MAIN STREET" (ok Field50K none "" ("JOHN DOE" ∷ "123 MAIN STREET" ∷ []) ":50K:JOHN DOE\n123 MAIN STREET") ∷
    without "X\n1/A" (ok Field50F (some "X") "" ("A" ∷ []) ":50F:X\n1/A") ∷
    without "" (no 11 0) ∷
    without "~" (no 11 0) ∷
    without "/~\n~" (no 11 0) ∷
    without "/GB82WEST12345698765432\n1/JOHN SMITH\n2/456 AVENUE\n3/GB/LONDON" (ok Field50F (some "/GB82WEST12345698765432") "" ("JOHN SMITH" ∷ "456 AVENUE" ∷ "GB/LONDON" ∷ []) ":50F:/GB82WEST12345698765432\n1/JOHN SMITH\n2/456 AVENUE\n3/GB/LONDON") ∷
    without "NIDN/DE/121231234342\n1/MANN GEORG\n6/DE/ABC BANK/1234578293" (ok Field50F (some "NIDN/DE/121231234342") "" ("MANN GEORG" ∷ "DE/ABC BANK/1234578293" ∷ []) ":50F:NIDN/DE/121231234342\n1/MANN GEORG\n2/DE/ABC BANK/1234578293") ∷
    without "ABCDEFGH" (ok Field50A none "ABCDEFGH" [] ":50A:ABCDEFGH") ∷
    without "/DE89370400440532013000\nDEUTDEFF" (ok Field50A (some "DE89370400440532013000") "DEUTDEFF" [] ":50A:/DE89370400440532013000\nDEUTDEFF") ∷
    without "/C/12345678\nDEUTDEFF500\nNOT READ" (ok Field50K (some "C/12345678") "" ("DEUTDEFF500" ∷ "NOT READ" ∷ []) ":50K:/C/12345678\nDEUTDEFF500\nNOT READ") ∷
    without "//CH123456\nUBSWCHZH80A" (ok Field50A (some "/CH123456") "UBSWCHZH80A" [] ":50A://CH123456\nUBSWCHZH80A") ∷
    without "abcdef12" (ok Field50A none "abcdef12" [] ":50A:abcdef12") ∷
    without "A\nB" (ok Field50K none "" ("A" ∷ "B" ∷ []) ":50K:A\nB") ∷
    without "/DE89370400440532013000\nJOHN DOE\n123 MAIN STREET\nBERLIN" (ok Field50K (some "DE89370400440532013000") "" ("JOHN DOE" ∷ "123 MAIN STREET" ∷ "BERLIN" ∷ []) ":50K:/DE89370400440532013000\nJOHN DOE\n123 MAIN STREET\nBERLIN") ∷
    without "JOHN DOE\r\n123 MAIN STREET" (ok Field50K none "" ("JOHN DOE" ∷ "123 MAIN STREET" ∷ []) ":50K:JOHN DOE\n123 MAIN STREET") ∷
    by "F" "X\n1/A" (ok Field50F (some "X") "" ("A" ∷ []) ":50F:X\n1/A") ∷
    by "F" "~" (no 1 0) ∷
    by "F" "/~\n~" (no 3 1) ∷
    by "F" "/GB82WEST12345698765432\n1/JOHN SMITH\n2/456 AVENUE\n3/GB/LONDON" (ok Field50F (some "/GB82WEST12345698765432") "" ("JOHN SMITH" ∷ "456 AVENUE" ∷ "GB/LONDON" ∷ []) ":50F:/GB82WEST12345698765432\n1/JOHN SMITH\n2/456 AVENUE\n3/GB/LONDON") ∷
    by "F" "NIDN/DE/121231234342\n1/MANN GEORG\n6/DE/ABC BANK/1234578293" (ok Field50F (some "NIDN/DE/121231234342") "" ("MANN GEORG" ∷ "DE/ABC BANK/1234578293" ∷ []) ":50F:NIDN/DE/121231234342\n1/MANN GEORG\n2/DE/ABC BANK/1234578293") ∷
    by "F" "ABCDEFGH" (no 1 0) ∷
    by "F" "/DE89370400440532013000\nDEUTDEFF" (no 5 2) ∷
    by "F" "/C/12345678\nDEUTDEFF500\nNOT READ" (no 5 2) ∷
    by "F" "//CH123456\nUBSWCHZH80A" (no 5 2) ∷
    by "F" "abcdef12" (no 1 0) ∷
    by "F" "A\nB" (no 5 2) ∷
    by "F" "/DE89370400440532013000\nJOHN DOE\n123 MAIN STREET\nBERLIN" (no 5 2) ∷
    by "F" "JOHN DOE\r\n123 MAIN STREET" (no 5 2) ∷
    by "A" "X\n1/A" (no 9 1) ∷
    by "A" "~" (no 9 1) ∷
    by "A" "/~\n~" (no 3 1) ∷
    by "A" "/GB82WEST12345698765432\n1/JOHN SMITH\n2/456 AVENUE\n3/GB/LONDON" (no 9 2) ∷
    by "A" "NIDN/DE/121231234342\n1/MANN GEORG\n6/DE/ABC BANK/1234578293" (no 9 1) ∷
    by "A" "ABCDEFGH" (ok Field50A none "ABCDEFGH" [] ":50A:ABCDEFGH") ∷
    by "A" "/DE89370400440532013000\nDEUTDEFF" (ok Field50A (some "DE89370400440532013000") "DEUTDEFF" [] ":50A:/DE89370400440532013000\nDEUTDEFF") ∷
    by "A" "/C/12345678\nDEUTDEFF500\nNOT READ" (ok Field50A (some "C/12345678") "DEUTDEFF500" [] ":50A:/C/12345678\nDEUTDEFF500") ∷
    by "A" "//CH123456\nUBSWCHZH80A" (ok Field50A (some "/CH123456") "UBSWCHZH80A" [] ":50A://CH123456\nUBSWCHZH80A") ∷
    by "A" "abcdef12" (ok Field50A none "abcdef12" [] ":50A:abcdef12") ∷
    by "A" "A\nB" (no 9 1) ∷
    by "A" "/DE89370400440532013000\nJOHN DOE\n123 MAIN STREET\nBERLIN" (no 10 2) ∷
    by "A" "JOHN DOE\r\n123 MAIN STREET" (no 10 1) ∷
    by "K" "X\n1/A" (ok Field50K none "" ("X" ∷ "1/A" ∷ []) ":50K:X\n1/A") ∷
    by "K" "~" (no 3 1) ∷
    by "K" "/~\n~" (no 3 1) ∷
    by "K" "/GB82WEST12345698765432\n1/JOHN SMITH\n2/456 AVENUE\n3/GB/LONDON" (ok Field50K (some "GB82WEST12345698765432") "" ("1/JOHN SMITH" ∷ "2/456 AVENUE" ∷ "3/GB/LONDON" ∷ []) ":50K:/GB82WEST12345698765432\n1/JOHN SMITH\n2/456 AVENUE\n3/GB/LONDON") ∷
    by "K" "NIDN/DE/121231234342\n1/MANN GEORG\n6/DE/ABC BANK/1234578293" (ok Field50K none "" ("NIDN/DE/121231234342" ∷ "1/MANN GEORG" ∷ "6/DE/ABC BANK/1234578293" ∷ []) ":50K:NIDN/DE/121231234342\n1/MANN GEORG\n6/DE/ABC BANK/1234578293") ∷
    by "K" "ABCDEFGH" (ok Field50K none "" ("ABCDEFGH" ∷ []) ":50K:ABCDEFGH") ∷
    by "K" "/DE89370400440532013000\nDEUTDEFF" (ok Field50K (some "DE89370400440532013000") "" ("DEUTDEFF" ∷ []) ":50K:/DE89370400440532013000\nDEUTDEFF") ∷
    by "K" "/C/12345678\nDEUTDEFF500\nNOT READ" (ok Field50K (some "C/12345678") "" ("DEUTDEFF500" ∷ "NOT READ" ∷ []) ":50K:/C/12345678\nDEUTDEFF500\nNOT READ") ∷
    by "K" "//CH123456\nUBSWCHZH80A" (ok Field50K (some "/CH123456") "" ("UBSWCHZH80A" ∷ []) ":50K://CH123456\nUBSWCHZH80A") ∷
    by "K" "abcdef12" (ok Field50K none "" ("abcdef12" ∷ []) ":50K:abcdef12") ∷
    by "K" "A\nB" (ok Field50K none "" ("A" ∷ "B" ∷ []) ":50K:A\nB") ∷
    by "K" "/DE89370400440532013000\nJOHN DOE\n123 MAIN STREET\nBERLIN" (ok Field50K (some "DE89370400440532013000") "" ("JOHN DOE" ∷ "123 MAIN STREET" ∷ "BERLIN" ∷ []) ":50K:/DE89370400440532013000\nJOHN DOE\n123 MAIN STREET\nBERLIN") ∷
    by "K" "JOHN DOE\r\n123 MAIN STREET" (ok Field50K none "" ("JOHN DOE" ∷ "123 MAIN STREET" ∷ []) ":50K:JOHN DOE\n123 MAIN STREET") ∷
    by "B" "X\n1/A" (ok Field50F (some "X") "" ("A" ∷ []) ":50F:X\n1/A") ∷
    by "C" "X\n1/A" (ok Field50F (some "X") "" ("A" ∷ []) ":50F:X\n1/A") ∷
    by "G" "X\n1/A" (ok Field50F (some "X") "" ("A" ∷ []) ":50F:X\n1/A") ∷
    by "H" "X\n1/A" (ok Field50F (some "X") "" ("A" ∷ []) ":50F:X\n1/A") ∷
    by "L" "X\n1/A" (ok Field50F (some "X") "" ("A" ∷ []) ":50F:X\n1/A") ∷
    by "Y" "X\n1/A" (ok Field50F (some "X") "" ("A" ∷ []) ":50F:X\n1/A") ∷
    by "Z" "X\n1/A" (ok Field50F (some "X") "" ("A" ∷ []) ":50F:X\n1/A") ∷
    by "B" "" (no 11 0) ∷
    by "B" "~" (no 11 0) ∷
    by "B" "/~\n~" (no 11 0) ∷
    by "B" "/GB82WEST12345698765432\n1/JOHN SMITH\n2/456 AVENUE\n3/GB/LONDON" (ok Field50F (some "/GB82WEST12345698765432") "" ("JOHN SMITH" ∷ "456 AVENUE" ∷ "GB/LONDON" ∷ []) ":50F:/GB82WEST12345698765432\n1/JOHN SMITH\n2/456 AVENUE\n3/GB/LONDON") ∷
    by "B" "NIDN/DE/121231234342\n1/MANN GEORG\n6/DE/ABC BANK/1234578293" (ok Field50F (some "NIDN/DE/121231234342") "" ("MANN GEORG" ∷ "DE/ABC BANK/1234578293" ∷ []) ":50F:NIDN/DE/121231234342\n1/MANN GEORG\n2/DE/ABC BANK/1234578293") ∷
    by "B" "ABCDEFGH" (ok Field50A none "ABCDEFGH" [] ":50A:ABCDEFGH") ∷
    by "B" "/DE89370400440532013000\nDEUTDEFF" (ok Field50A (some "DE89370400440532013000") "DEUTDEFF" [] ":50A:/DE89370400440532013000\nDEUTDEFF") ∷
    by "B" "/C/12345678\nDEUTDEFF500\nNOT READ" (ok Field50K (some "C/12345678") "" ("DEUTDEFF500" ∷ "NOT READ" ∷ []) ":50K:/C/12345678\nDEUTDEFF500\nNOT READ") ∷
    by "B" "//CH123456\nUBSWCHZH80A" (ok Field50A (some "/CH123456") "UBSWCHZH80A" [] ":50A://CH123456\nUBSWCHZH80A") ∷
    by "B" "abcdef12" (ok Field50A none "abcdef12" [] ":50A:abcdef12") ∷
    by "B" "A\nB" (ok Field50K none "" ("A" ∷ "B" ∷ []) ":50K:A\nB") ∷
    by "B" "/DE89370400440532013000\nJOHN DOE\n123 MAIN STREET\nBERLIN" (ok Field50K (some "DE89370400440532013000") "" ("JOHN DOE" ∷ "123 MAIN STREET" ∷ "BERLIN" ∷ []) ":50K:/DE89370400440532013000\nJOHN DOE\n123 MAIN STREET\nBERLIN") ∷
    by "B" "JOHN DOE\r\n123 MAIN STREET" (ok Field50K none "" ("JOHN DOE" ∷ "123 MAIN STREET" ∷ []) ":50K:JOHN DOE\n123 MAIN STREET") ∷
    by "a" "X\n1/A" (ok Field50F (some "X") "" ("A" ∷ []) ":50F:X\n1/A") ∷
    by "c" "X\n1/A" (ok Field50F (some "X") "" ("A" ∷ []) ":50F:X\n1/A") ∷
    by "f" "X\n1/A" (ok Field50F (some "X") "" ("A" ∷ []) ":50F:X\n1/A") ∷
    by "z" "X\n1/A" (ok Field50F (some "X") "" ("A" ∷ []) ":50F:X\n1/A") ∷
    by "0" "X\n1/A" (ok Field50F (some "X") "" ("A" ∷ []) ":50F:X\n1/A") ∷
    by "5" "X\n1/A" (ok Field50F (some "X") "" ("A" ∷ []) ":50F:X\n1/A") ∷
    by "9" "X\n1/A" (ok Field50F (some "X") "" ("A" ∷ []) ":50F:X\n1/A") ∷
    by "\u{1}" "X\n1/A" (ok Field50F (some "X") "" ("A" ∷ []) ":50F:X\n1/A") ∷
    by "\t" "X\n1/A" (ok Field50F (some "X") "" ("A" ∷ []) ":50F:X\n1/A") ∷
    by "\n" "X\n1/A" (ok Field50F (some "X") "" ("A" ∷ []) ":50F:X\n1/A") ∷
    by " " "X\n1/A" (ok Field50F (some "X") "" ("A" ∷ []) ":50F:X\n1/A") ∷
    by "/" "X\n1/A" (ok Field50F (some "X") "" ("A" ∷ []) ":50F:X\n1/A") ∷
    by ":" "X\n1/A" (ok Field50F (some "X") "" ("A" ∷ []) ":50F:X\n1/A") ∷
    by "@" "X\n1/A" (ok Field50F (some "X") "" ("A" ∷ []) ":50F:X\n1/A") ∷
    by "[" "X\n1/A" (ok Field50F (some "X") "" ("A" ∷ []) ":50F:X\n1/A") ∷
    by "`" "X\n1/A" (ok Field50F (some "X") "" ("A" ∷ []) ":50F:X\n1/A") ∷
    by "{" "X\n1/A" (ok Field50F (some "X") "" ("A" ∷ []) ":50F:X\n1/A") ∷
    by "~" "X\n1/A" (ok Field50F (some "X") "" ("A" ∷ []) ":50F:X\n1/A") ∷
    by "\u{7f}" "X\n1/A" (ok Field50F (some "X") "" ("A" ∷ []) ":50F:X\n1/A") ∷
    parse "JOHNDOES\n" (ok Field50A none "JOHNDOES" [] ":50A:JOHNDOES") ∷
    parse "JOHNDOES\n " (ok Field50K none "" ("JOHNDOES" ∷ " " ∷ []) ":50K:JOHNDOES\n ") ∷
    parse "JOHNDOES\n\t\r\n" (no 11 0) ∷
    parse "JOHNDOES\n\n\u{b}\u{c}  " (no 11 0) ∷
    parse "JOHNDOES\nA" (ok Field50K none "" ("JOHNDOES" ∷ "A" ∷ []) ":50K:JOHNDOES\nA") ∷
    parse "JOHNDOES\n A" (ok Field50K none "" ("JOHNDOES" ∷ " A" ∷ []) ":50K:JOHNDOES\n A") ∷
    parse "JOHNDOES\nA\t\r\n" (no 11 0) ∷
    parse "JOHNDOES\n\n\u{b}\u{c}A  " (no 11 0) ∷
    parse "JOHNDOES\nABCDEFG" (ok Field50K none "" ("JOHNDOES" ∷ "ABCDEFG" ∷ []) ":50K:JOHNDOES\nABCDEFG") ∷
    parse "JOHNDOES\n ABCDEFG" (ok Field50K none "" ("JOHNDOES" ∷ " ABCDEFG" ∷ []) ":50K:JOHNDOES\n ABCDEFG") ∷
    parse "JOHNDOES\nABCDEFG\t\r\n" (no 11 0) ∷
    parse "JOHNDOES\n\n\u{b}\u{c}ABCDEFG  " (no 11 0) ∷
    parse "JOHNDOES\nABCDEFGH" (ok Field50A none "JOHNDOES" [] ":50A:JOHNDOES") ∷
    parse "JOHNDOES\n ABCDEFGH" (ok Field50A none "JOHNDOES" [] ":50A:JOHNDOES") ∷
    parse "JOHNDOES\nABCDEFGH\t\r\n" (ok Field50A none "JOHNDOES" [] ":50A:JOHNDOES") ∷
    parse "JOHNDOES\n\n\u{b}\u{c}ABCDEFGH  " (ok Field50A none "JOHNDOES" [] ":50A:JOHNDOES") ∷
    parse "JOHNDOES\nABCDEFGHI" (ok Field50K none "" ("JOHNDOES" ∷ "ABCDEFGHI" ∷ []) ":50K:JOHNDOES\nABCDEFGHI") ∷
    parse "JOHNDOES\n ABCDEFGHI" (ok Field50K none "" ("JOHNDOES" ∷ " ABCDEFGHI" ∷ []) ":50K:JOHNDOES\n ABCDEFGHI") ∷
    parse "JOHNDOES\nABCDEFGHI\t\r\n" (no 11 0) ∷
    parse "JOHNDOES\n\n\u{b}\u{c}ABCDEFGHI  " (no 11 0) ∷
    parse "JOHNDOES\nABCDEFGHIJ" (ok Field50K none "" ("JOHNDOES" ∷ "ABCDEFGHIJ" ∷ []) ":50K:JOHNDOES\nABCDEFGHIJ") ∷
    parse "JOHNDOES\n ABCDEFGHIJ" (ok Field50K none "" ("JOHNDOES" ∷ " ABCDEFGHIJ" ∷ []) ":50K:JOHNDOES\n ABCDEFGHIJ") ∷
    parse "JOHNDOES\nABCDEFGHIJ\t\r\n" (no 11 0) ∷
    parse "JOHNDOES\n\n\u{b}\u{c}ABCDEFGHIJ  " (no 11 0) ∷
    parse "JOHNDOES\nABCDEFGHIJK" (ok Field50A none "JOHNDOES" [] ":50A:JOHNDOES") ∷
    parse "JOHNDOES\n ABCDEFGHIJK" (ok Field50A none "JOHNDOES" [] ":50A:JOHNDOES") ∷
    parse "JOHNDOES\nABCDEFGHIJK\t\r\n" (ok Field50A none "JOHNDOES" [] ":50A:JOHNDOES") ∷
    parse "JOHNDOES\n\n\u{b}\u{c}ABCDEFGHIJK  " (ok Field50A none "JOHNDOES" [] ":50A:JOHNDOES") ∷
    parse "JOHNDOES\nABCDEFGHIJKL" (ok Field50K none "" ("JOHNDOES" ∷ "ABCDEFGHIJKL" ∷ []) ":50K:JOHNDOES\nABCDEFGHIJKL") ∷
    parse "JOHNDOES\n ABCDEFGHIJKL" (ok Field50K none "" ("JOHNDOES" ∷ " ABCDEFGHIJKL" ∷ []) ":50K:JOHNDOES\n ABCDEFGHIJKL") ∷
    parse "JOHNDOES\nABCDEFGHIJKL\t\r\n" (no 11 0) ∷
    parse "JOHNDOES\n\n\u{b}\u{c}ABCDEFGHIJKL  " (no 11 0) ∷
    parse "/A" (no 11 0) ∷
    parse "/A\nA" (ok Field50K (some "A") "" ("A" ∷ []) ":50K:/A\nA") ∷
    parse "/A\nABCDEFGH" (ok Field50A (some "A") "ABCDEFGH" [] ":50A:/A\nABCDEFGH") ∷
    parse "/A\n1/A" (ok Field50F (some "/A") "" ("A" ∷ []) ":50F:/A\n1/A") ∷
    parse "/A\nA\nB" (ok Field50K (some "A") "" ("A" ∷ "B" ∷ []) ":50K:/A\nA\nB") ∷
    parse "/A\nA\n1/A" (ok Field50K (some "A") "" ("A" ∷ "1/A" ∷ []) ":50K:/A\nA\n1/A") ∷
    parse "/A\n1/A\nA" (ok Field50K (some "A") "" ("1/A" ∷ "A" ∷ []) ":50K:/A\n1/A\nA") ∷
    parse "/A\n1/A\n1/B" (ok Field50F (some "/A") "" ("A" ∷ "B" ∷ []) ":50F:/A\n1/A\n2/B") ∷
    parse "A" (ok Field50K none "" ("A" ∷ []) ":50K:A") ∷
    parse "A\nA" (ok Field50K none "" ("A" ∷ "A" ∷ []) ":50K:A\nA") ∷
    parse "A\nABCDEFGH" (ok Field50K none "" ("A" ∷ "ABCDEFGH" ∷ []) ":50K:A\nABCDEFGH") ∷
    parse "A\n1/A" (ok Field50F (some "A") "" ("A" ∷ []) ":50F:A\n1/A") ∷
    parse "A\nA\nB" (ok Field50K none "" ("A" ∷ "A" ∷ "B" ∷ []) ":50K:A\nA\nB") ∷
    parse "A\nA\n1/A" (ok Field50K none "" ("A" ∷ "A" ∷ "1/A" ∷ []) ":50K:A\nA\n1/A") ∷
    parse "A\n1/A\nA" (ok Field50K none "" ("A" ∷ "1/A" ∷ "A" ∷ []) ":50K:A\n1/A\nA") ∷
    parse "A\n1/A\n1/B" (ok Field50F (some "A") "" ("A" ∷ "B" ∷ []) ":50F:A\n1/A\n2/B") ∷
    parse "\rX\n1/A" (ok Field50F (some "\rX") "" ("A" ∷ []) ":50F:\rX\n1/A") ∷
    parse "X\r\n1/A" (ok Field50F (some "X") "" ("A" ∷ []) ":50F:X\n1/A") ∷
    parse "X\n\r1/A" (ok Field50K none "" ("X" ∷ "\r1/A" ∷ []) ":50K:X\n\r1/A") ∷
    parse "X\n1\r/A" (ok Field50K none "" ("X" ∷ "1\r/A" ∷ []) ":50K:X\n1\r/A") ∷
    parse "X\n1/\rA" (ok Field50F (some "X") "" ("\rA" ∷ []) ":50F:X\n1/\rA") ∷
    parse "X\n1/A\r" (ok Field50F (some "X") "" ("A\r" ∷ []) ":50F:X\n1/A\r") ∷
    parse "\nX\n1/A" (ok Field50K none "" ("" ∷ "X" ∷ "1/A" ∷ []) ":50K:\nX\n1/A") ∷
    parse "X\n\n1/A" (ok Field50K none "" ("X" ∷ "" ∷ "1/A" ∷ []) ":50K:X\n\n1/A") ∷
    parse "X\n1\n/A" (ok Field50K none "" ("X" ∷ "1" ∷ "/A" ∷ []) ":50K:X\n1\n/A") ∷
    parse "X\n1/\nA" (ok Field50K none "" ("X" ∷ "1/" ∷ "A" ∷ []) ":50K:X\n1/\nA") ∷
    parse "X\n1/A\n" (ok Field50F (some "X") "" ("A" ∷ []) ":50F:X\n1/A") ∷
    parse "\r\nX\n1/A" (ok Field50K none "" ("" ∷ "X" ∷ "1/A" ∷ []) ":50K:\nX\n1/A") ∷
    parse "X\r\n\n1/A" (ok Field50K none "" ("X" ∷ "" ∷ "1/A" ∷ []) ":50K:X\n\n1/A") ∷
    parse "X\n\r\n1/A" (ok Field50K none "" ("X" ∷ "" ∷ "1/A" ∷ []) ":50K:X\n\n1/A") ∷
    parse "X\n1\r\n/A" (ok Field50K none "" ("X" ∷ "1" ∷ "/A" ∷ []) ":50K:X\n1\n/A") ∷
    parse "X\n1/\r\nA" (ok Field50K none "" ("X" ∷ "1/" ∷ "A" ∷ []) ":50K:X\n1/\nA") ∷
    parse "X\n1/A\r\n" (ok Field50F (some "X") "" ("A" ∷ []) ":50F:X\n1/A") ∷
    parse "\r\n1/A" (ok Field50K none "" ("" ∷ "1/A" ∷ []) ":50K:\n1/A") ∷
    parse "X\r1/A" (ok Field50K none "" ("X\r1/A" ∷ []) ":50K:X\r1/A") ∷
    parse "X\n\r/A" (ok Field50K none "" ("X" ∷ "\r/A" ∷ []) ":50K:X\n\r/A") ∷
    parse "X\n1\rA" (ok Field50K none "" ("X" ∷ "1\rA" ∷ []) ":50K:X\n1\rA") ∷
    parse "X\n1/\r" (ok Field50F (some "X") "" ("\r" ∷ []) ":50F:X\n1/\r") ∷
    parse "\n\n1/A" (ok Field50K none "" ("" ∷ "" ∷ "1/A" ∷ []) ":50K:\n\n1/A") ∷
    parse "X\n\n/A" (ok Field50K none "" ("X" ∷ "" ∷ "/A" ∷ []) ":50K:X\n\n/A") ∷
    parse "X\n1\nA" (ok Field50K none "" ("X" ∷ "1" ∷ "A" ∷ []) ":50K:X\n1\nA") ∷
    parse "X\n1/\n" (ok Field50F (some "X") "" ("" ∷ []) ":50F:X\n1/") ∷
    parse "\rABCDEFGH" (ok Field50K none "" ("\rABCDEFGH" ∷ []) ":50K:\rABCDEFGH") ∷
    parse "A\rBCDEFGH" (ok Field50K none "" ("A\rBCDEFGH" ∷ []) ":50K:A\rBCDEFGH") ∷
    parse "AB\rCDEFGH" (ok Field50K none "" ("AB\rCDEFGH" ∷ []) ":50K:AB\rCDEFGH") ∷
    parse "ABC\rDEFGH" (ok Field50K none "" ("ABC\rDEFGH" ∷ []) ":50K:ABC\rDEFGH") ∷
    parse "ABCD\rEFGH" (ok Field50K none "" ("ABCD\rEFGH" ∷ []) ":50K:ABCD\rEFGH") ∷
    parse "ABCDE\rFGH" (ok Field50K none "" ("ABCDE\rFGH" ∷ []) ":50K:ABCDE\rFGH") ∷
    parse "ABCDEF\rGH" (ok Field50K none "" ("ABCDEF\rGH" ∷ []) ":50K:ABCDEF\rGH") ∷
    parse "ABCDEFG\rH" (ok Field50K none "" ("ABCDEFG\rH" ∷ []) ":50K:ABCDEFG\rH") ∷
    parse "ABCDEFGH\r" (ok Field50K none "" ("ABCDEFGH\r" ∷ []) ":50K:ABCDEFGH\r") ∷
    parse "\nABCDEFGH" (ok Field50K none "" ("" ∷ "ABCDEFGH" ∷ []) ":50K:\nABCDEFGH") ∷
    parse "A\nBCDEFGH" (ok Field50K none "" ("A" ∷ "BCDEFGH" ∷ []) ":50K:A\nBCDEFGH") ∷
    parse "AB\nCDEFGH" (ok Field50K none "" ("AB" ∷ "CDEFGH" ∷ []) ":50K:AB\nCDEFGH") ∷
    parse "ABC\nDEFGH" (ok Field50K none "" ("ABC" ∷ "DEFGH" ∷ []) ":50K:ABC\nDEFGH") ∷
    parse "ABCD\nEFGH" (ok Field50K none "" ("ABCD" ∷ "EFGH" ∷ []) ":50K:ABCD\nEFGH") ∷
    parse "ABCDE\nFGH" (ok Field50K none "" ("ABCDE" ∷ "FGH" ∷ []) ":50K:ABCDE\nFGH") ∷
    parse "ABCDEF\nGH" (ok Field50K none "" ("ABCDEF" ∷ "GH" ∷ []) ":50K:ABCDEF\nGH") ∷
    parse "ABCDEFG\nH" (ok Field50K none "" ("ABCDEFG" ∷ "H" ∷ []) ":50K:ABCDEFG\nH") ∷
    parse "ABCDEFGH\n" (ok Field50A none "ABCDEFGH" [] ":50A:ABCDEFGH") ∷
    parse "\r\nABCDEFGH" (ok Field50K none "" ("" ∷ "ABCDEFGH" ∷ []) ":50K:\nABCDEFGH") ∷
    parse "A\r\nBCDEFGH" (ok Field50K none "" ("A" ∷ "BCDEFGH" ∷ []) ":50K:A\nBCDEFGH") ∷
    parse "AB\r\nCDEFGH" (ok Field50K none "" ("AB" ∷ "CDEFGH" ∷ []) ":50K:AB\nCDEFGH") ∷
    parse "ABC\r\nDEFGH" (ok Field50K none "" ("ABC" ∷ "DEFGH" ∷ []) ":50K:ABC\nDEFGH") ∷
    parse "ABCD\r\nEFGH" (ok Field50K none "" ("ABCD" ∷ "EFGH" ∷ []) ":50K:ABCD\nEFGH") ∷
    parse "ABCDE\r\nFGH" (ok Field50K none "" ("ABCDE" ∷ "FGH" ∷ []) ":50K:ABCDE\nFGH") ∷
    parse "ABCDEF\r\nGH" (ok Field50K none "" ("ABCDEF" ∷ "GH" ∷ []) ":50K:ABCDEF\nGH") ∷
    parse "ABCDEFG\r\nH" (ok Field50K none "" ("ABCDEFG" ∷ "H" ∷ []) ":50K:ABCDEFG\nH") ∷
    parse "ABCDEFGH\r\n" (ok Field50A none "ABCDEFGH" [] ":50A:ABCDEFGH") ∷
    parse "\rBCDEFGH" (ok Field50K none "" ("\rBCDEFGH" ∷ []) ":50K:\rBCDEFGH") ∷
    parse "A\rCDEFGH" (ok Field50K none "" ("A\rCDEFGH" ∷ []) ":50K:A\rCDEFGH") ∷
    parse "AB\rDEFGH" (ok Field50K none "" ("AB\rDEFGH" ∷ []) ":50K:AB\rDEFGH") ∷
    parse "ABC\rEFGH" (ok Field50K none "" ("ABC\rEFGH" ∷ []) ":50K:ABC\rEFGH") ∷
    parse "ABCD\rFGH" (ok Field50K none "" ("ABCD\rFGH" ∷ []) ":50K:ABCD\rFGH") ∷
    parse "ABCDE\rGH" (ok Field50K none "" ("ABCDE\rGH" ∷ []) ":50K:ABCDE\rGH") ∷
    parse "ABCDEF\rH" (ok Field50K none "" ("ABCDEF\rH" ∷ []) ":50K:ABCDEF\rH") ∷
    parse "ABCDEFG\r" (ok Field50K none "" ("ABCDEFG\r" ∷ []) ":50K:ABCDEFG\r") ∷
    parse "\nBCDEFGH" (ok Field50K none "" ("" ∷ "BCDEFGH" ∷ []) ":50K:\nBCDEFGH") ∷
    parse "A\nCDEFGH" (ok Field50K none "" ("A" ∷ "CDEFGH" ∷ []) ":50K:A\nCDEFGH") ∷
    parse "AB\nDEFGH" (ok Field50K none "" ("AB" ∷ "DEFGH" ∷ []) ":50K:AB\nDEFGH") ∷
    parse "ABC\nEFGH" (ok Field50K none "" ("ABC" ∷ "EFGH" ∷ []) ":50K:ABC\nEFGH") ∷
    parse "ABCD\nFGH" (ok Field50K none "" ("ABCD" ∷ "FGH" ∷ []) ":50K:ABCD\nFGH") ∷
    parse "ABCDE\nGH" (ok Field50K none "" ("ABCDE" ∷ "GH" ∷ []) ":50K:ABCDE\nGH") ∷
    parse "ABCDEF\nH" (ok Field50K none "" ("ABCDEF" ∷ "H" ∷ []) ":50K:ABCDEF\nH") ∷
    parse "ABCDEFG\n" (ok Field50K none "" ("ABCDEFG" ∷ []) ":50K:ABCDEFG") ∷
    parse "\rA\nB" (ok Field50K none "" ("\rA" ∷ "B" ∷ []) ":50K:\rA\nB") ∷
    parse "A\r\nB" (ok Field50K none "" ("A" ∷ "B" ∷ []) ":50K:A\nB") ∷
    parse "A\n\rB" (ok Field50K none "" ("A" ∷ "\rB" ∷ []) ":50K:A\n\rB") ∷
    parse "A\nB\r" (ok Field50K none "" ("A" ∷ "B\r" ∷ []) ":50K:A\nB\r") ∷
    parse "\nA\nB" (ok Field50K none "" ("" ∷ "A" ∷ "B" ∷ []) ":50K:\nA\nB") ∷
    parse "A\n\nB" (ok Field50K none "" ("A" ∷ "" ∷ "B" ∷ []) ":50K:A\n\nB") ∷
    parse "A\nB\n" (ok Field50K none "" ("A" ∷ "B" ∷ []) ":50K:A\nB") ∷
    parse "\r\nA\nB" (ok Field50K none "" ("" ∷ "A" ∷ "B" ∷ []) ":50K:\nA\nB") ∷
    parse "A\r\n\nB" (ok Field50K none "" ("A" ∷ "" ∷ "B" ∷ []) ":50K:A\n\nB") ∷
    parse "A\n\r\nB" (ok Field50K none "" ("A" ∷ "" ∷ "B" ∷ []) ":50K:A\n\nB") ∷
    parse "A\nB\r\n" (ok Field50K none "" ("A" ∷ "B" ∷ []) ":50K:A\nB") ∷
    parse "\r\nB" (ok Field50K none "" ("" ∷ "B" ∷ []) ":50K:\nB") ∷
    parse "A\rB" (ok Field50K none "" ("A\rB" ∷ []) ":50K:A\rB") ∷
    parse "A\n\r" (ok Field50K none "" ("A" ∷ "\r" ∷ []) ":50K:A\n\r") ∷
    parse "\n\nB" (ok Field50K none "" ("" ∷ "" ∷ "B" ∷ []) ":50K:\n\nB") ∷
    parse "A\n\n" (ok Field50K none "" ("A" ∷ "" ∷ []) ":50K:A\n") ∷
    parse "JOHNDOES\nSTREETAB\0" (no 11 0) ∷
    parse "JOHNDOES\nSTREETAB\u{1}" (no 11 0) ∷
    parse "JOHNDOES\nSTREETAB\u{2}" (no 11 0) ∷
    parse "JOHNDOES\nSTREETAB\u{3}" (no 11 0) ∷
    parse "JOHNDOES\nSTREETAB\u{4}" (no 11 0) ∷
    parse "JOHNDOES\nSTREETAB\u{5}" (no 11 0) ∷
    parse "JOHNDOES\nSTREETAB\u{6}" (no 11 0) ∷
    parse "JOHNDOES\nSTREETAB\u{7}" (no 11 0) ∷
    parse "JOHNDOES\nSTREETAB\u{8}" (no 11 0) ∷
    parse "JOHNDOES\nSTREETAB\t" (ok Field50A none "JOHNDOES" [] ":50A:JOHNDOES") ∷
    parse "JOHNDOES\nSTREETAB\n" (ok Field50A none "JOHNDOES" [] ":50A:JOHNDOES") ∷
    parse "JOHNDOES\nSTREETAB\u{b}" (ok Field50A none "JOHNDOES" [] ":50A:JOHNDOES") ∷
    parse "JOHNDOES\nSTREETAB\u{c}" (ok Field50A none "JOHNDOES" [] ":50A:JOHNDOES") ∷
    parse "JOHNDOES\nSTREETAB\r" (ok Field50A none "JOHNDOES" [] ":50A:JOHNDOES") ∷
    parse "JOHNDOES\nSTREETAB\u{e}" (no 11 0) ∷
    parse "JOHNDOES\nSTREETAB\u{f}" (no 11 0) ∷
    parse "JOHNDOES\nSTREETAB\u{10}" (no 11 0) ∷
    parse "JOHNDOES\nSTREETAB\u{11}" (no 11 0) ∷
    parse "JOHNDOES\nSTREETAB\u{12}" (no 11 0) ∷
    parse "JOHNDOES\nSTREETAB\u{13}" (no 11 0) ∷
    parse "JOHNDOES\nSTREETAB\u{14}" (no 11 0) ∷
    parse "JOHNDOES\nSTREETAB\u{15}" (no 11 0) ∷
    parse "JOHNDOES\nSTREETAB\u{16}" (no 11 0) ∷
    parse "JOHNDOES\nSTREETAB\u{17}" (no 11 0) ∷
    parse "JOHNDOES\nSTREETAB\u{18}" (no 11 0) ∷
    parse "JOHNDOES\nSTREETAB\u{19}" (no 11 0) ∷
    parse "JOHNDOES\nSTREETAB\u{1a}" (no 11 0) ∷
    parse "JOHNDOES\nSTREETAB\u{1b}" (no 11 0) ∷
    parse "JOHNDOES\nSTREETAB\u{1c}" (no 11 0) ∷
    parse "JOHNDOES\nSTREETAB\u{1d}" (no 11 0) ∷
    parse "JOHNDOES\nSTREETAB\u{1e}" (no 11 0) ∷
    parse "JOHNDOES\nSTREETAB\u{1f}" (no 11 0) ∷
    parse "JOHNDOES\nSTREETAB " (ok Field50A none "JOHNDOES" [] ":50A:JOHNDOES") ∷
    parse "JOHNDOES\nSTREETAB!" (ok Field50K none "" ("JOHNDOES" ∷ "STREETAB!" ∷ []) ":50K:JOHNDOES\nSTREETAB!") ∷
    parse "JOHNDOES\nSTREETAB\"" (ok Field50K none "" ("JOHNDOES" ∷ "STREETAB\"" ∷ []) ":50K:JOHNDOES\nSTREETAB\"") ∷
    parse "JOHNDOES\nSTREETAB#" (ok Field50K none "" ("JOHNDOES" ∷ "STREETAB#" ∷ []) ":50K:JOHNDOES\nSTREETAB#") ∷
    parse "JOHNDOES\nSTREETAB$" (ok Field50K none "" ("JOHNDOES" ∷ "STREETAB$" ∷ []) ":50K:JOHNDOES\nSTREETAB$") ∷
    parse "JOHNDOES\nSTREETAB%" (ok Field50K none "" ("JOHNDOES" ∷ "STREETAB%" ∷ []) ":50K:JOHNDOES\nSTREETAB%") ∷
    parse "JOHNDOES\nSTREETAB&" (ok Field50K none "" ("JOHNDOES" ∷ "STREETAB&" ∷ []) ":50K:JOHNDOES\nSTREETAB&") ∷
    parse "JOHNDOES\nSTREETAB'" (ok Field50K none "" ("JOHNDOES" ∷ "STREETAB'" ∷ []) ":50K:JOHNDOES\nSTREETAB'") ∷
    parse "JOHNDOES\nSTREETAB(" (ok Field50K none "" ("JOHNDOES" ∷ "STREETAB(" ∷ []) ":50K:JOHNDOES\nSTREETAB(") ∷
    parse "JOHNDOES\nSTREETAB)" (ok Field50K none "" ("JOHNDOES" ∷ "STREETAB)" ∷ []) ":50K:JOHNDOES\nSTREETAB)") ∷
    parse "JOHNDOES\nSTREETAB*" (ok Field50K none "" ("JOHNDOES" ∷ "STREETAB*" ∷ []) ":50K:JOHNDOES\nSTREETAB*") ∷
    parse "JOHNDOES\nSTREETAB+" (ok Field50K none "" ("JOHNDOES" ∷ "STREETAB+" ∷ []) ":50K:JOHNDOES\nSTREETAB+") ∷
    parse "JOHNDOES\nSTREETAB," (ok Field50K none "" ("JOHNDOES" ∷ "STREETAB," ∷ []) ":50K:JOHNDOES\nSTREETAB,") ∷
    parse "JOHNDOES\nSTREETAB-" (ok Field50K none "" ("JOHNDOES" ∷ "STREETAB-" ∷ []) ":50K:JOHNDOES\nSTREETAB-") ∷
    parse "JOHNDOES\nSTREETAB." (ok Field50K none "" ("JOHNDOES" ∷ "STREETAB." ∷ []) ":50K:JOHNDOES\nSTREETAB.") ∷
    parse "JOHNDOES\nSTREETAB/" (ok Field50K none "" ("JOHNDOES" ∷ "STREETAB/" ∷ []) ":50K:JOHNDOES\nSTREETAB/") ∷
    parse "JOHNDOES\nSTREETAB0" (ok Field50K none "" ("JOHNDOES" ∷ "STREETAB0" ∷ []) ":50K:JOHNDOES\nSTREETAB0") ∷
    parse "JOHNDOES\nSTREETAB1" (ok Field50K none "" ("JOHNDOES" ∷ "STREETAB1" ∷ []) ":50K:JOHNDOES\nSTREETAB1") ∷
    parse "JOHNDOES\nSTREETAB2" (ok Field50K none "" ("JOHNDOES" ∷ "STREETAB2" ∷ []) ":50K:JOHNDOES\nSTREETAB2") ∷
    parse "JOHNDOES\nSTREETAB3" (ok Field50K none "" ("JOHNDOES" ∷ "STREETAB3" ∷ []) ":50K:JOHNDOES\nSTREETAB3") ∷
    parse "JOHNDOES\nSTREETAB4" (ok Field50K none "" ("JOHNDOES" ∷ "STREETAB4" ∷ []) ":50K:JOHNDOES\nSTREETAB4") ∷
    parse "JOHNDOES\nSTREETAB5" (ok Field50K none "" ("JOHNDOES" ∷ "STREETAB5" ∷ []) ":50K:JOHNDOES\nSTREETAB5") ∷
    parse "JOHNDOES\nSTREETAB6" (ok Field50K none "" ("JOHNDOES" ∷ "STREETAB6" ∷ []) ":50K:JOHNDOES\nSTREETAB6") ∷
    parse "JOHNDOES\nSTREETAB7" (ok Field50K none "" ("JOHNDOES" ∷ "STREETAB7" ∷ []) ":50K:JOHNDOES\nSTREETAB7") ∷
    parse "JOHNDOES\nSTREETAB8" (ok Field50K none "" ("JOHNDOES" ∷ "STREETAB8" ∷ []) ":50K:JOHNDOES\nSTREETAB8") ∷
    parse "JOHNDOES\nSTREETAB9" (ok Field50K none "" ("JOHNDOES" ∷ "STREETAB9" ∷ []) ":50K:JOHNDOES\nSTREETAB9") ∷
    parse "JOHNDOES\nSTREETAB:" (ok Field50K none "" ("JOHNDOES" ∷ "STREETAB:" ∷ []) ":50K:JOHNDOES\nSTREETAB:") ∷
    parse "JOHNDOES\nSTREETAB;" (ok Field50K none "" ("JOHNDOES" ∷ "STREETAB;" ∷ []) ":50K:JOHNDOES\nSTREETAB;") ∷
    parse "JOHNDOES\nSTREETAB<" (ok Field50K none "" ("JOHNDOES" ∷ "STREETAB<" ∷ []) ":50K:JOHNDOES\nSTREETAB<") ∷
    parse "JOHNDOES\nSTREETAB=" (ok Field50K none "" ("JOHNDOES" ∷ "STREETAB=" ∷ []) ":50K:JOHNDOES\nSTREETAB=") ∷
    parse "JOHNDOES\nSTREETAB>" (ok Field50K none "" ("JOHNDOES" ∷ "STREETAB>" ∷ []) ":50K:JOHNDOES\nSTREETAB>") ∷
    parse "JOHNDOES\nSTREETAB?" (ok Field50K none "" ("JOHNDOES" ∷ "STREETAB?" ∷ []) ":50K:JOHNDOES\nSTREETAB?") ∷
    parse "JOHNDOES\nSTREETAB@" (ok Field50K none "" ("JOHNDOES" ∷ "STREETAB@" ∷ []) ":50K:JOHNDOES\nSTREETAB@") ∷
    parse "JOHNDOES\nSTREETABA" (ok Field50K none "" ("JOHNDOES" ∷ "STREETABA" ∷ []) ":50K:JOHNDOES\nSTREETABA") ∷
    parse "JOHNDOES\nSTREETABB" (ok Field50K none "" ("JOHNDOES" ∷ "STREETABB" ∷ []) ":50K:JOHNDOES\nSTREETABB") ∷
    parse "JOHNDOES\nSTREETABC" (ok Field50K none "" ("JOHNDOES" ∷ "STREETABC" ∷ []) ":50K:JOHNDOES\nSTREETABC") ∷
    parse "JOHNDOES\nSTREETABD" (ok Field50K none "" ("JOHNDOES" ∷ "STREETABD" ∷ []) ":50K:JOHNDOES\nSTREETABD") ∷
    parse "JOHNDOES\nSTREETABE" (ok Field50K none "" ("JOHNDOES" ∷ "STREETABE" ∷ []) ":50K:JOHNDOES\nSTREETABE") ∷
    parse "JOHNDOES\nSTREETABF" (ok Field50K none "" ("JOHNDOES" ∷ "STREETABF" ∷ []) ":50K:JOHNDOES\nSTREETABF") ∷
    parse "JOHNDOES\nSTREETABG" (ok Field50K none "" ("JOHNDOES" ∷ "STREETABG" ∷ []) ":50K:JOHNDOES\nSTREETABG") ∷
    parse "JOHNDOES\nSTREETABH" (ok Field50K none "" ("JOHNDOES" ∷ "STREETABH" ∷ []) ":50K:JOHNDOES\nSTREETABH") ∷
    parse "JOHNDOES\nSTREETABI" (ok Field50K none "" ("JOHNDOES" ∷ "STREETABI" ∷ []) ":50K:JOHNDOES\nSTREETABI") ∷
    parse "JOHNDOES\nSTREETABJ" (ok Field50K none "" ("JOHNDOES" ∷ "STREETABJ" ∷ []) ":50K:JOHNDOES\nSTREETABJ") ∷
    parse "JOHNDOES\nSTREETABK" (ok Field50K none "" ("JOHNDOES" ∷ "STREETABK" ∷ []) ":50K:JOHNDOES\nSTREETABK") ∷
    parse "JOHNDOES\nSTREETABL" (ok Field50K none "" ("JOHNDOES" ∷ "STREETABL" ∷ []) ":50K:JOHNDOES\nSTREETABL") ∷
    parse "JOHNDOES\nSTREETABM" (ok Field50K none "" ("JOHNDOES" ∷ "STREETABM" ∷ []) ":50K:JOHNDOES\nSTREETABM") ∷
    parse "JOHNDOES\nSTREETABN" (ok Field50K none "" ("JOHNDOES" ∷ "STREETABN" ∷ []) ":50K:JOHNDOES\nSTREETABN") ∷
    parse "JOHNDOES\nSTREETABO" (ok Field50K none "" ("JOHNDOES" ∷ "STREETABO" ∷ []) ":50K:JOHNDOES\nSTREETABO") ∷
    parse "JOHNDOES\nSTREETABP" (ok Field50K none "" ("JOHNDOES" ∷ "STREETABP" ∷ []) ":50K:JOHNDOES\nSTREETABP") ∷
    parse "JOHNDOES\nSTREETABQ" (ok Field50K none "" ("JOHNDOES" ∷ "STREETABQ" ∷ []) ":50K:JOHNDOES\nSTREETABQ") ∷
    parse "JOHNDOES\nSTREETABR" (ok Field50K none "" ("JOHNDOES" ∷ "STREETABR" ∷ []) ":50K:JOHNDOES\nSTREETABR") ∷
    parse "JOHNDOES\nSTREETABS" (ok Field50K none "" ("JOHNDOES" ∷ "STREETABS" ∷ []) ":50K:JOHNDOES\nSTREETABS") ∷
    parse "JOHNDOES\nSTREETABT" (ok Field50K none "" ("JOHNDOES" ∷ "STREETABT" ∷ []) ":50K:JOHNDOES\nSTREETABT") ∷
    parse "JOHNDOES\nSTREETABU" (ok Field50K none "" ("JOHNDOES" ∷ "STREETABU" ∷ []) ":50K:JOHNDOES\nSTREETABU") ∷
    parse "JOHNDOES\nSTREETABV" (ok Field50K none "" ("JOHNDOES" ∷ "STREETABV" ∷ []) ":50K:JOHNDOES\nSTREETABV") ∷
    parse "JOHNDOES\nSTREETABW" (ok Field50K none "" ("JOHNDOES" ∷ "STREETABW" ∷ []) ":50K:JOHNDOES\nSTREETABW") ∷
    parse "JOHNDOES\nSTREETABX" (ok Field50K none "" ("JOHNDOES" ∷ "STREETABX" ∷ []) ":50K:JOHNDOES\nSTREETABX") ∷
    parse "JOHNDOES\nSTREETABY" (ok Field50K none "" ("JOHNDOES" ∷ "STREETABY" ∷ []) ":50K:JOHNDOES\nSTREETABY") ∷
    parse "JOHNDOES\nSTREETABZ" (ok Field50K none "" ("JOHNDOES" ∷ "STREETABZ" ∷ []) ":50K:JOHNDOES\nSTREETABZ") ∷
    parse "JOHNDOES\nSTREETAB[" (ok Field50K none "" ("JOHNDOES" ∷ "STREETAB[" ∷ []) ":50K:JOHNDOES\nSTREETAB[") ∷
    parse "JOHNDOES\nSTREETAB\\" (no 11 0) ∷
    parse "JOHNDOES\nSTREETAB]" (ok Field50K none "" ("JOHNDOES" ∷ "STREETAB]" ∷ []) ":50K:JOHNDOES\nSTREETAB]") ∷
    parse "JOHNDOES\nSTREETAB^" (no 11 0) ∷
    parse "JOHNDOES\nSTREETAB_" (ok Field50K none "" ("JOHNDOES" ∷ "STREETAB_" ∷ []) ":50K:JOHNDOES\nSTREETAB_") ∷
    parse "JOHNDOES\nSTREETAB`" (no 11 0) ∷
    parse "JOHNDOES\nSTREETABa" (ok Field50K none "" ("JOHNDOES" ∷ "STREETABa" ∷ []) ":50K:JOHNDOES\nSTREETABa") ∷
    parse "JOHNDOES\nSTREETABb" (ok Field50K none "" ("JOHNDOES" ∷ "STREETABb" ∷ []) ":50K:JOHNDOES\nSTREETABb") ∷
    parse "JOHNDOES\nSTREETABc" (ok Field50K none "" ("JOHNDOES" ∷ "STREETABc" ∷ []) ":50K:JOHNDOES\nSTREETABc") ∷
    parse "JOHNDOES\nSTREETABd" (ok Field50K none "" ("JOHNDOES" ∷ "STREETABd" ∷ []) ":50K:JOHNDOES\nSTREETABd") ∷
    parse "JOHNDOES\nSTREETABe" (ok Field50K none "" ("JOHNDOES" ∷ "STREETABe" ∷ []) ":50K:JOHNDOES\nSTREETABe") ∷
    parse "JOHNDOES\nSTREETABf" (ok Field50K none "" ("JOHNDOES" ∷ "STREETABf" ∷ []) ":50K:JOHNDOES\nSTREETABf") ∷
    parse "JOHNDOES\nSTREETABg" (ok Field50K none "" ("JOHNDOES" ∷ "STREETABg" ∷ []) ":50K:JOHNDOES\nSTREETABg") ∷
    parse "JOHNDOES\nSTREETABh" (ok Field50K none "" ("JOHNDOES" ∷ "STREETABh" ∷ []) ":50K:JOHNDOES\nSTREETABh") ∷
    parse "JOHNDOES\nSTREETABi" (ok Field50K none "" ("JOHNDOES" ∷ "STREETABi" ∷ []) ":50K:JOHNDOES\nSTREETABi") ∷
    parse "JOHNDOES\nSTREETABj" (ok Field50K none "" ("JOHNDOES" ∷ "STREETABj" ∷ []) ":50K:JOHNDOES\nSTREETABj") ∷
    parse "JOHNDOES\nSTREETABk" (ok Field50K none "" ("JOHNDOES" ∷ "STREETABk" ∷ []) ":50K:JOHNDOES\nSTREETABk") ∷
    parse "JOHNDOES\nSTREETABl" (ok Field50K none "" ("JOHNDOES" ∷ "STREETABl" ∷ []) ":50K:JOHNDOES\nSTREETABl") ∷
    parse "JOHNDOES\nSTREETABm" (ok Field50K none "" ("JOHNDOES" ∷ "STREETABm" ∷ []) ":50K:JOHNDOES\nSTREETABm") ∷
    parse "JOHNDOES\nSTREETABn" (ok Field50K none "" ("JOHNDOES" ∷ "STREETABn" ∷ []) ":50K:JOHNDOES\nSTREETABn") ∷
    parse "JOHNDOES\nSTREETABo" (ok Field50K none "" ("JOHNDOES" ∷ "STREETABo" ∷ []) ":50K:JOHNDOES\nSTREETABo") ∷
    parse "JOHNDOES\nSTREETABp" (ok Field50K none "" ("JOHNDOES" ∷ "STREETABp" ∷ []) ":50K:JOHNDOES\nSTREETABp") ∷
    parse "JOHNDOES\nSTREETABq" (ok Field50K none "" ("JOHNDOES" ∷ "STREETABq" ∷ []) ":50K:JOHNDOES\nSTREETABq") ∷
    parse "JOHNDOES\nSTREETABr" (ok Field50K none "" ("JOHNDOES" ∷ "STREETABr" ∷ []) ":50K:JOHNDOES\nSTREETABr") ∷
    parse "JOHNDOES\nSTREETABs" (ok Field50K none "" ("JOHNDOES" ∷ "STREETABs" ∷ []) ":50K:JOHNDOES\nSTREETABs") ∷
    parse "JOHNDOES\nSTREETABt" (ok Field50K none "" ("JOHNDOES" ∷ "STREETABt" ∷ []) ":50K:JOHNDOES\nSTREETABt") ∷
    parse "JOHNDOES\nSTREETABu" (ok Field50K none "" ("JOHNDOES" ∷ "STREETABu" ∷ []) ":50K:JOHNDOES\nSTREETABu") ∷
    parse "JOHNDOES\nSTREETABv" (ok Field50K none "" ("JOHNDOES" ∷ "STREETABv" ∷ []) ":50K:JOHNDOES\nSTREETABv") ∷
    parse "JOHNDOES\nSTREETABw" (ok Field50K none "" ("JOHNDOES" ∷ "STREETABw" ∷ []) ":50K:JOHNDOES\nSTREETABw") ∷
    parse "JOHNDOES\nSTREETABx" (ok Field50K none "" ("JOHNDOES" ∷ "STREETABx" ∷ []) ":50K:JOHNDOES\nSTREETABx") ∷
    parse "JOHNDOES\nSTREETABy" (ok Field50K none "" ("JOHNDOES" ∷ "STREETABy" ∷ []) ":50K:JOHNDOES\nSTREETABy") ∷
    parse "JOHNDOES\nSTREETABz" (ok Field50K none "" ("JOHNDOES" ∷ "STREETABz" ∷ []) ":50K:JOHNDOES\nSTREETABz") ∷
    parse "JOHNDOES\nSTREETAB{" (ok Field50K none "" ("JOHNDOES" ∷ "STREETAB{" ∷ []) ":50K:JOHNDOES\nSTREETAB{") ∷
    parse "JOHNDOES\nSTREETAB|" (ok Field50K none "" ("JOHNDOES" ∷ "STREETAB|" ∷ []) ":50K:JOHNDOES\nSTREETAB|") ∷
    parse "JOHNDOES\nSTREETAB}" (ok Field50K none "" ("JOHNDOES" ∷ "STREETAB}" ∷ []) ":50K:JOHNDOES\nSTREETAB}") ∷
    parse "JOHNDOES\nSTREETAB~" (no 11 0) ∷
    parse "JOHNDOES\nSTREETAB\u{7f}" (no 11 0) ∷
    parse "ABCDEFGH\nABCDEFGHIJKLMNOPQRSTUVWXYZ0123456789ABCDEFGHIJKLMNOPQRSTUVWXYZ0123456789ABCDEFGHIJKLMNOPQRSTUVWXYZ0123456789ABCDEFGHIJKLMNOPQRSTUVWXYZ0123456789ABCDEFGHIJKLMNOPQRSTUVWXYZ0123456789ABCDEFGHIJKLMNOPQRSTUVWXYZ0123456789ABCDEFGHIJKLMNOPQRSTUVWXYZ0123456789ABCDEFGHIJKLMNOPQRSTUVWXYZ0123456789ABCDEFGHIJKLMNOPQRSTUVWXYZ0123456789ABCDEFGHIJKLMNOPQRSTUVWXYZ0123456789ABCDEFGHIJKLMNOPQRSTUVWXYZ0123456789ABCDEFGHIJKLMNOPQRSTUVWXYZ0123456789ABCDEFGHIJKLMNOPQRSTUVWXYZ0123456789ABCDEFGHIJKLMNOPQRSTUVWXYZ0123456789ABCDEFGHIJKLMNOPQRSTUVWXYZ0123456789ABCDEFGHIJKLMNOPQRSTUVWXYZ0123456789ABCDEFGHIJKLMNOPQRSTUVWXYZ0123456789ABCDEFGHIJKLMNOPQRSTUVWXYZ0123456789ABCDEFGHIJKLMNOPQRSTUVWXYZ0123456789ABCDEFGHIJKLMNOPQRSTUVWXYZ0123456789ABCDEFGHIJKLMNOPQRSTUVWXYZ0123456789ABCDEFGHIJKLMNOPQRSTUVWXYZ0123456789ABCDEFGHIJKLMNOPQRSTUVWXYZ0123456789ABCDEFGHIJKLMNOPQRSTUVWXYZ0123456789ABCDEFGHIJKLMNOPQRSTUVWXYZ0123456789ABCDEFGHIJKLMNOPQRSTUVWXYZ0123456789ABCDEFGHIJKLMNOPQRSTUVWXYZ0123456789ABCDEFGHIJKLMNOPQRSTUVWXYZ0123456789ABCDEFGHIJKLMNOPQRSTUVWXYZ0123456789ABCDEFGHIJKLMNOPQRSTUVWXYZ0123456789ABCDEFGHIJKLMNOPQRSTUVWXYZ0123456789ABCDEFGHIJKLMNOPQRSTUVWXYZ0123456789ABCDEFGHIJKLMNOPQRSTUVWXYZ0123456789ABCDEFGHIJKLMNOPQRSTUVWXYZ0123456789ABCDEFGHIJKLMNOPQRSTUVWXYZ0123456789ABCDEFGHIJKLMNOPQRSTUVWXYZ0123456789ABCDEFGHIJKLMNOPQRSTUVWXYZ0123456789ABCDEFGHIJKLMNOPQRSTUVWXYZ0123456789ABCDEFGHIJKLMNOPQRSTUVWXYZ0123456789ABCDEFGHIJKLMNOPQRSTUVWXYZ0123456789ABCDEFGHIJKLMNOPQRSTUVWXYZ0123456789ABCDEFGHIJKLMNOPQRSTUVWXYZ0123456789ABCDEFGHIJKLMNOPQRSTUVWXYZ0123456789ABCDEFGHIJKLMNOPQRSTUVWXYZ0123456789ABCDEFGHIJKLMNOPQRSTUVWXYZ0123456789ABCDEFGHIJKLMNOPQRSTUVWXYZ0123456789ABCDEFGHIJKLMNOPQRSTUVWXYZ0123456789ABCDEFGHIJKLMNOPQRSTUVWXYZ0123456789ABCDEFGHIJKLMNOPQRSTUVWXYZ0123456789ABCDEFGHIJKLMNOPQRSTUVWXYZ0123456789ABCDEFGHIJKLMNOPQRSTUVWXYZ0123456789ABCDEFGHIJKLMNOPQRSTUVWXYZ0123456789ABCDEFGHIJKLMNOPQRSTUVWXYZ0123456789ABCDEFGHIJKLMNOPQRSTUVWXYZ0123456789ABCDEFGHIJKLMNOPQRSTUVWXYZ0123456789ABCDEFGHIJKLMNOPQRSTUVWXYZ0123456789ABCDEFGHIJKLMN\nABCDEFGH" (ok Field50A none "ABCDEFGH" [] ":50A:ABCDEFGH") ∷
    parse "//ABCDEFGHIJKLMNOPQRSTUVWXYZ01234567\r ABCDEFGH" (no 11 0) ∷
    by "K" "/ABCDEFAGHIJKMNOPQRSTUVWXYZ013456" (no 7 0) ∷
    by "F" "X1);\n1/\n2/\n3/!@,)>" (ok Field50F (some "X1);") "" ("" ∷ "" ∷ "!@,)>" ∷ []) ":50F:X1);\n1/\n2/\n3/!@,)>") ∷
    parse "/C/.yY11\rX1\r\n" (no 11 0) ∷
    by "A" "//&1:C\n1/< }<a\rdeutdeff\n5/1Z>8\n3/?8_:" (no 9 2) ∷
    parse "=\r\n%:[\r\n[;<0.\r\n[=?*&-" (ok Field50K none "" ("=" ∷ "%:[" ∷ "[;<0." ∷ "[=?*&-" ∷ []) ":50K:=\n%:[\n[;<0.\n[=?*&-") ∷
    by "F" "X\n\n//" (no 5 2) ∷
    by "Z" "JOHN DOE\rx\n123 MAIN ST" (ok Field50K none "" ("JOHN DOE\rx" ∷ "123 MAIN ST" ∷ []) ":50K:JOHN DOE\rx\n123 MAIN ST") ∷
    without "JOHN DOE\r\n123 \\MAIN STEAIN STEET" (no 11 0) ∷
    parse "?\n|:@}2\n" (ok Field50K none "" ("?" ∷ "|:@}2" ∷ []) ":50K:?\n|:@}2") ∷
    parse "ABCDEFGHIJKLMNOPQRSTUVWXYZ023456789" (ok Field50K none "" ("ABCDEFGHIJKLMNOPQRSTUVWXYZ023456789" ∷ []) ":50K:ABCDEFGHIJKLMNOPQRSTUVWXYZ023456789") ∷
    without "C0b\n|(C}c;\n(b&#;_\n-A.aZ" (ok Field50K none "" ("C0b" ∷ "|(C}c;" ∷ "(b&#;_" ∷ "-A.aZ" ∷ []) ":50K:C0b\n|(C}c;\n(b&#;_\n-A.aZ") ∷
    without "/A\nA\nA\n1A\nABCDEFGHIJKLMNOPQRST\\VWXY:Z0123456789" (no 11 0) ∷
    by "K" "zAA\nB" (ok Field50K none "" ("zAA" ∷ "B" ∷ []) ":50K:zAA\nB") ∷
    by "H" "/,z;:\n\n//\r3/'\n1/#*|Z*9\r\n" (ok Field50K (some ",z;:") "" ("" ∷ "//\r3/'" ∷ "1/#*|Z*9" ∷ []) ":50K:/,z;:\n\n//\r3/'\n1/#*|Z*9") ∷
    by "A" "/A1/ABCDEFGHIJKLMNOPYQRSTUVWXYZ012323456\nABCD:EFGH" (no 2 1) ∷
    by "K" "/90\nABCDEF~GHIJKLMNOPERSTUVWXYZ01234567 \nX" (no 4 2) ∷
    parse "\r\n11/A" (ok Field50K none "" ("" ∷ "11/A" ∷ []) ":50K:\n11/A") ∷
    by "A" "//CH1234523456\nAbCdEf12" (ok Field50A (some "/CH1234523456") "AbCdEf12" [] ":50A://CH1234523456\nAbCdEf12") ∷
    without "/C/|({=#\nx:,8{#\n>X!,\n\nABCDEFGHIJKLMNOP\0" (no 11 0) ∷
    without "\nBB" (ok Field50K none "" ("" ∷ "BB" ∷ []) ":50K:\nBB") ∷
    without "//CH:23456\n/EUTDEFF500\n" (ok Field50K (some "/CH:23456") "" ("/EUTDEFF500" ∷ []) ":50K://CH:23456\n/EUTDEFF500") ∷
    by "F" "ABCDFGHDEFGH" (no 1 0) ∷
    by "A" "//!{+.\n ABCDEF123AZ\n//A(?}_" (no 9 2) ∷
    by "Z" "JOHN AOE\r\n123 MAIN STREET" (ok Field50K none "" ("JOHN AOE" ∷ "123 MAIN STREET" ∷ []) ":50K:JOHN AOE\n123 MAIN STREET") ∷
    without "/C/)}c=\ndeutdeff" (ok Field50A (some "C/)}c=") "deutdeff" [] ":50A:/C/)}c=\ndeutdeff") ∷
    by "H" "AbCdEf12\r\n" (ok Field50A none "AbCdEf12" [] ":50A:AbCdEf12") ∷
    by "F" "X\n1/-B|$z.\n2/c!y" (ok Field50F (some "X") "" ("-B|$z." ∷ "c!y" ∷ []) ":50F:X\n1/-B|$z.\n2/c!y") ∷
    parse "X\n1\0/AA" (no 11 0) ∷
    by "G" "/ABCDEFGHIJKLMNOPQRSTUVWXYZ012945678\nA" (no 11 0) ∷
    parse "/$C/%*)\nABCDEFGHIJ\n" (ok Field50K (some "$C/%*)") "" ("ABCDEFGHIJ" ∷ []) ":50K:/$C/%*)\nABCDEFGHIJ") ∷
    parse "NIDN/DE/121231234342\n1/MANN GEORG\n6/DE/ABC BANK/12345782-9" (ok Field50F (some "NIDN/DE/121231234342") "" ("MANN GEORG" ∷ "DE/ABC BANK/12345782-9" ∷ []) ":50F:NIDN/DE/121231234342\n1/MANN GEORG\n2/DE/ABC BANK/12345782-9") ∷
    parse "AbCdEf12\r\n" (ok Field50A none "AbCdEf12" [] ":50A:AbCdEf12") ∷
    by "F" "A^\nB" (no 3 1) ∷
    without "//RT1:\n" (no 11 0) ∷
    parse "/Y/*A;\rABCDEFGHI\n/C" (ok Field50K (some "Y/*A;\rABCDEFGHI") "" ("/C" ∷ []) ":50K:/Y/*A;\rABCDEFGHI\n/C") ∷
    by "K" "/C/-\r\nABCDEF123AZz\n" (ok Field50K (some "C/-") "" ("ABCDEF123AZz" ∷ []) ":50K:/C/-\nABCDEF123AZz") ∷
    by "A" "DEUTDEF-51010" (no 9 1) ∷
    without "\n" (ok Field50K none "" ("" ∷ []) ":50K:") ∷
    by "K" "5/ABCDEFGHIJKLMNOPQRSTUVWXYZ01234567\r\n1/B" (no 4 1) ∷
    by "F" " " (no 1 0) ∷
    by "Y" "XABCDEFGHIJKLMNOPQRSTUVWXYZ0123456\n1/ABCDEFGHIJKLMNOPQRSTUVWXY9Z012345\n2/ " (ok Field50F (some "XABCDEFGHIJKLMNOPQRSTUVWXYZ0123456") "" ("ABCDEFGHIJKLMNOPQRSTUVWXY9Z012345" ∷ " " ∷ []) ":50F:XABCDEFGHIJKLMNOPQRSTUVWXYZ0123456\n1/ABCDEFGHIJKLMNOPQRSTUVWXY9Z012345\n2/ ") ∷
    by "A" "X+;+z=\r\n1/ABCDEFGHIJKLMNOPQRSTUVWX^YZ012345\r\n2/\r\n3/'@\r\n4/189\r\nz\\" (no 9 1) ∷
    without "//]#]*@\n1/$\r AbCdEf12\nABCDEFGHIJ" (ok Field50K (some "/]#]*@") "" ("1/$\r AbCdEf12" ∷ "ABCDEFGHIJ" ∷ []) ":50K://]#]*@\n1/$\r AbCdEf12\nABCDEFGHIJ") ∷
    by "B" "X\n1/" (ok Field50F (some "X") "" ("" ∷ []) ":50F:X\n1/") ∷
    without "X\n1/+0!=(\n2/Zz%yC&\n3/- *\n" (ok Field50F (some "X") "" ("+0!=(" ∷ "Zz%yC&" ∷ "- *" ∷ []) ":50F:X\n1/+0!=(\n2/Zz%yC&\n3/- *") ∷
    by "L" ")=_$\n0\n\u{1}C;[:\n-}a" (no 11 0) ∷
    without "/GB82WEST123415698765432\n1/JOHN SMITH\n2/456 AVENUE\n3/GB/LOONDOA" (ok Field50F (some "/GB82WEST123415698765432") "" ("JOHN SMITH" ∷ "456 AVENUE" ∷ "GB/LOONDOA" ∷ []) ":50F:/GB82WEST123415698765432\n1/JOHN SMITH\n2/456 AVENUE\n3/GB/LOONDOA") ∷
    by "F" "/1\r\nUBSWCHZ0" (no 5 2) ∷
    by "K" "JOHN D@OE\r\n123 MAIN STREET" (ok Field50K none "" ("JOHN D@OE" ∷ "123 MAIN STREET" ∷ []) ":50K:JOHN D@OE\n123 MAIN STREET") ∷
    by "K" "JOHN DOE\r\n1^23 MAIN STREET" (no 3 2) ∷
    by "C" "X\"\n1/@0\n2/(yB\n3/ABCDEFGHIJKLMNOPQRSTUVWXYZ012345" (ok Field50F (some "X\"") "" ("@0" ∷ "(yB" ∷ "ABCDEFGHIJKLMNOPQRSTUVWXYZ012345" ∷ []) ":50F:X\"\n1/@0\n2/(yB\n3/ABCDEFGHIJKLMNOPQRSTUVWXYZ012345") ∷
    by "F" "/}cz/1AX>\n/YBA|C" (no 5 2) ∷
    without "/ABCDEFGHIJKLMNOPQRSTUVWXYZ0123456\n\nY+0\n=<@/A(" (ok Field50K (some "ABCDEFGHIJKLMNOPQRSTUVWXYZ0123456") "" ("" ∷ "Y+0" ∷ "=<@/A(" ∷ []) ":50K:/ABCDEFGHIJKLMNOPQRSTUVWXYZ0123456\n\nY+0\n=<@/A(") ∷
    by "K" "/C/+)\nABCDEFGHIJKLMNOPQRSTUVWXYZ01234567\nABCDEFGHIJKLMNOPQRSTUVWXYZ01234A5678\n" (no 4 3) ∷
    by "K" "/_%z%c\nABCDEFGHIJKLMNOPQRSTUVWXYZ01234Z6\0\n-[{@<\n_B,\nA<*" (no 3 2) ∷
    by "K" "-/$B\r\n1/[/1\r\n ABCDEFGH\r\n DEUTDEFF500\n//\n/$$)0B}\r/*'{\r" (no 7 0) ∷
    without "X\n1/\nA" (ok Field50K none "" ("X" ∷ "1/" ∷ "A" ∷ []) ":50K:X\n1/\nA") ∷
    without "deutdeff\rABCDEFGH\n<z,_._" (ok Field50K none "" ("deutdeff\rABCDEFGH" ∷ "<z,_._" ∷ []) ":50K:deutdeff\rABCDEFGH\n<z,_._") ∷
    by "G" "/A/'-9]" (no 11 0) ∷
    by "Z" "\"YZ1$\r\n" (ok Field50K none "" ("\"YZ1$" ∷ []) ":50K:\"YZ1$") ∷
    by "K" "//~W\r\n" (no 3 1) ∷
    by "K" "AB" (ok Field50K none "" ("AB" ∷ []) ":50K:AB") ∷
    by "K" "JOHN DOE\r\n13 MAN STREET" (ok Field50K none "" ("JOHN DOE" ∷ "13 MAN STREET" ∷ []) ":50K:JOHN DOE\n13 MAN STREET") ∷
    by "K" "XC@\u{7f}>\r\n1/Y|" (no 3 1) ∷
    without "XYX8Y[\n1/.LC+\n" (ok Field50F (some "XYX8Y[") "" (".LC+" ∷ []) ":50F:XYX8Y[\n1/.LC+") ∷
    by "K" "/[Z?\rABCDEFGH\nABCDEFG\rABCDEFGH\nABCDEFG\rABCDEFGHIJKLMNOPQRSTUVWXYZ0123456789\rABCDEFGHIJ" (no 4 3) ∷
    by "A" "\tA\nB" (no 9 1) ∷
    by "K" "0/:Z=/_\n/[ay#(\r\n/A/@\r\nUBSWCHZ0" (ok Field50K none "" ("0/:Z=/_" ∷ "/[ay#(" ∷ "/A/@" ∷ "UBSWCHZ0" ∷ []) ":50K:0/:Z=/_\n/[ay#(\n/A/@\nUBSWCHZ0") ∷
    parse "A\n" (ok Field50K none "" ("A" ∷ []) ":50K:A") ∷
    by "F" "ABCDEFGHIJKLMNOPQRSTUVWXYZ0123456\n1/Z'+b'" (ok Field50F (some "ABCDEFGHIJKLMNOPQRSTUVWXYZ0123456") "" ("Z'+b'" ∷ []) ":50F:ABCDEFGHIJKLMNOPQRSTUVWXYZ0123456\n1/Z'+b'") ∷
    by "G" "X< {:0\n1/'\n2/\n3/ABCDEFGHIJKLMNOPQSTUVWXYZ0\t\r3456" (no 11 0) ∷
    by "G" "/C/ABCDEFGHIJKLMNOPQRSTUVWXYZ01234\nUBSWCHZ0" (ok Field50A (some "C/ABCDEFGHIJKLMNOPQRSTUVWXYZ01234") "UBSWCHZ0" [] ":50A:/C/ABCDEFGHIJKLMNOPQRSTUVWXYZ01234\nUBSWCHZ0") ∷
    by "A" "XBZ:1z\r\n1/(1=x/\r\n" (no 9 1) ∷
    without "/\r\nABCD>F123AZ" (ok Field50K (some "") "" ("ABCD>F123AZ" ∷ []) ":50K:/\nABCD>F123AZ") ∷
    by "L" "JOHN DOE\r\n123 MAI\t9 STREE\r" (no 11 0) ∷
    by "Y" "//\r/81Z@=)\r" (no 11 0) ∷
    by "G" "/A\nA1BCDEFGHIJKzMNOPQRSTUVWXYZ012345678\nB" (no 11 0) ∷
    by "A" "/ABCDEFGHIJKLMNOPQRSTUVWXYZ0\u{8}123456\nABCDEFGH" (no 3 1) ∷
    by "K" "/+!CB@1\r\nABCDEF\n123ACDEF123AZ" (ok Field50K (some "+!CB@1") "" ("ABCDEF" ∷ "123ACDEF123AZ" ∷ []) ":50K:/+!CB@1\nABCDEF\n123ACDEF123AZ") ∷
    by "A" "!!!)\u{7f}" (no 9 1) ∷
    without "X\n1/A\n2/A\n3/A" (ok Field50F (some "X") "" ("A" ∷ "A" ∷ "A" ∷ []) ":50F:X\n1/A\n2/A\n3/A") ∷
    by "A" "/" (no 8 0) ∷
    by "F" "Xy0z!@0\n1/ABCDEFGHIJKLMNOPQRSTUVWXYZ012345\n2/aY;\n3/[-\n44/Z[" (no 5 5) ∷
    by "Z" "ABCDEFGH" (ok Field50A none "ABCDEFGH" [] ":50A:ABCDEFGH") ∷
    without "//CH123456\r\nABC\rEFGH" (ok Field50K (some "/CH123456") "" ("ABC\rEFGH" ∷ []) ":50K://CH123456\nABC\rEFGH") ∷
    by "A" " ABCDEFGH\r\n7/&{X)\n-,@\nABCDEF123AZ" (no 9 1) ∷
    by "A" "d:\teuAtdeff" (no 10 1) ∷
    without "//FW\n;<&_c(\n!.1\n>\n>-" (ok Field50K (some "/FW") "" (";<&_c(" ∷ "!.1" ∷ ">" ∷ ">-" ∷ []) ":50K://FW\n;<&_c(\n!.1\n>\n>-") ∷
    by "A" "/ABCDEFGHIJKLMNOPQR" (no 8 0) ∷
    by "A" "/\nDEUTDEFF500" (ok Field50A (some "") "DEUTDEFF500" [] ":50A:/\nDEUTDEFF500") ∷
    without "/GB82WEST12345698765432\n1/JOHN SMITH/\n2/456 AVENUE\n3/GB/LONDONB82WEST12345698765432\n1/JOHN SMITH\n2/456 AVENUE\n3/GB/LONDON" (no 11 0) ∷
    by "F" "/DEA8" (no 1 0) ∷
    by "F" "NIDN/DE/121231234342\n1/MANN GEORG\n6/DE/ABC BAN\\K/1" (no 3 3) ∷
    by "F" "X%-\r\n1/%\r\n2/*\r\n3/@<" (ok Field50F (some "X%-") "" ("%" ∷ "*" ∷ "@<" ∷ []) ":50F:X%-\n1/%\n2/*\n3/@<") ∷
    parse "/C/C]\n=0]\n=09.,Y\n\">x\n=0]\n=09.,Y\n\">x\n<c\"\n$:,*ya" (no 11 0) ∷
    parse "/DE89370400440532013000\nJOHN DOE\n1" (ok Field50K (some "DE89370400440532013000") "" ("JOHN DOE" ∷ "1" ∷ []) ":50K:/DE89370400440532013000\nJOHN DOE\n1") ∷
    by "A" "abc\nef12" (no 9 1) ∷
    without "//ABCDEFGHIJKLMNOPQRSTUVWXYZ01234567" (no 11 0) ∷
    parse " deutdeff\n1/ABCDEFGHIJKLMNOPQRSTUVWXYZ012345\n2/\"_,)[=" (ok Field50F (some " deutdeff") "" ("ABCDEFGHIJKLMNOPQRSTUVWXYZ012345" ∷ "\"_,)[=" ∷ []) ":50F: deutdeff\n1/ABCDEFGHIJKLMNOPQRSTUVWXYZ012345\n2/\"_,)[=") ∷
    by "L" "\nrB" (ok Field50K none "" ("" ∷ "rB" ∷ []) ":50K:\nrB") ∷
    without "//FW\n*?]a\t?x" (no 11 0) ∷
    parse "//RT1\r\nABCDEFGHIJKLMNOPQRSTUVWXYZ01234567\r\n" (ok Field50K (some "/RT1") "" ("ABCDEFGHIJKLMNOPQRSTUVWXYZ01234567" ∷ []) ":50K://RT1\nABCDEFGHIJKLMNOPQRSTUVWXYZ01234567") ∷
    by "K" "/ABCDEFGHIJKLMNOPQCDEFGkHIJKLMNOPQRSTUVWXYZ0123456789\nA" (no 2 1) ∷
    by "A" "/1/ABCDE&GHIJKLMNOPQRSTUVWXYZ0123456\nABCDEFGH" (ok Field50A (some "1/ABCDE&GHIJKLMNOPQRSTUVWXYZ0123456") "ABCDEFGH" [] ":50A:/1/ABCDE&GHIJKLMNOPQRSTUVWXYZ0123456\nABCDEFGH") ∷
    by "A" "\r//ABCDEFGHIJKLMNOPQRSTUVWXYZ012345678\r\n\rABCDEFGHI" (no 9 1) ∷
    by "A" "deutdeff" (ok Field50A none "deutdeff" [] ":50A:deutdeff") ∷
    by "F" "X\nv1/A\n2/A\n3/A\n4/A05/A\n6/A" (no 5 2) ∷
    by "K" "x.\n*\u{7f}{(" (no 3 2) ∷
    parse "/A\r\nUzBSWC~HZ0\t\r\n" (no 11 0) ∷
    without "/DE8\t9370400440532013000\nJOHN DOE\n123 MAIN STREET\nBER1LIN" (no 11 0) ∷
    by "F" "/<-8(\nAbCdE" (no 5 2) ∷
    without "/ABCDEFGHIJKLMNOPQRSTUVWXYZ0123456\r\n+\r\n,|BA'%\r\n\r\u{7f}\n&Xb]@(" (no 11 0) ∷
    by "F" "/GB82WEST12345698765432\n1/" (ok Field50F (some "/GB82WEST12345698765432") "" ("" ∷ []) ":50F:/GB82WEST12345698765432\n1/") ∷
    by "K" "//\r\n//_c" (ok Field50K (some "/") "" ("//_c" ∷ []) ":50K://\n//_c") ∷
    by "Y" "/C/_\r\n0z'0x\r\nABCDEFGHIJKLMNOPQRSTUVWXYZ012345678\r\nB/A-@)" (ok Field50K (some "C/_") "" ("0z'0x" ∷ "ABCDEFGHIJKLMNOPQRSTUVWXYZ012345678" ∷ "B/A-@)" ∷ []) ":50K:/C/_\n0z'0x\nABCDEFGHIJKLMNOPQRSTUVWXYZ012345678\nB/A-@)") ∷
    by "F" "X\n/ACDEFG" (no 5 2) ∷
    without "AbCdEf12\n8/\"Z\"}! " (ok Field50F (some "AbCdEf12") "" ("\"Z\"}! " ∷ []) ":50F:AbCdEf12\n1/\"Z\"}! ") ∷
    by "H" "ABCDEF/H" (ok Field50K none "" ("ABCDEF/H" ∷ []) ":50K:ABCDEF/H") ∷
    by "F" "/GB82WEST12345698765432\n1/JOHN SMIH\n2/JOHN SMIH\n2/456 AVENUE\n3/GB/LONDON" (ok Field50F (some "/GB82WEST12345698765432") "" ("JOHN SMIH" ∷ "JOHN SMIH" ∷ "456 AVENUE" ∷ "GB/LONDON" ∷ []) ":50F:/GB82WEST12345698765432\n1/JOHN SMIH\n2/JOHN SMIH\n3/456 AVENUE\n4/GB/LONDON") ∷
    by "Y" "ABCDEFGHIJKLMNOPQRSTUVWXYZ01234\n56\n1/B" (ok Field50K none "" ("ABCDEFGHIJKLMNOPQRSTUVWXYZ01234" ∷ "56" ∷ "1/B" ∷ []) ":50K:ABCDEFGHIJKLMNOPQRSTUVWXYZ01234\n56\n1/B") ∷
    by "F" "Xc\n1/ /a|\n2/;'X\n3/<_-\n4/[+" (ok Field50F (some "Xc") "" (" /a|" ∷ ";'X" ∷ "<_-" ∷ "[+" ∷ []) ":50F:Xc\n1/ /a|\n2/;'X\n3/<_-\n4/[+") ∷
    by "K" "+*\nABCDEFGHIJKLMNOPQRSTUVWXYZ\r1234567\n" (ok Field50K none "" ("+*" ∷ "ABCDEFGHIJKLMNOPQRSTUVWXYZ\r1234567" ∷ []) ":50K:+*\nABCDEFGHIJKLMNOPQRSTUVWXYZ\r1234567") ∷
    by "K" "/ABCDEFGHIJKLMNOPQRSTU/VWXYZ012345967\nA" (no 2 1) ∷
    by "K" "/A\n\n/B" (ok Field50K (some "A") "" ("" ∷ "/B" ∷ []) ":50K:/A\n\n/B") ∷
    without "UBS\u{7f}CzZ0" (no 11 0) ∷
    by "F" "X9Y+A]=V1/B@\n20/{##8_\n" (no 5 2) ∷
    parse "8/ABCDEFGHIJKLMNOPQRSTUVWXYZ01234567\n" (no 11 0) ∷
    by "F" "X\n1/A\n2/A\n3/A\n4n/A\n/A\n6/AT\n7/A\n8/A\n9/A\n0/A" (no 5 5) ∷
    by "K" "/DE89370400440532\r13000\nJOHN DOE\n123 MAIN STREET\nDOE\n123 MAIN STRE123 MAIN STREET\nBERLIN" (no 7 0) ∷
    without "/>b*b\ndeutdeff\r\n5/Cza:A\n deutdeff\r//zXBY>A\n5/]_" (ok Field50K (some ">b*b") "" ("deutdeff" ∷ "5/Cza:A" ∷ " deutdeff\r//zXBY>A" ∷ "5/]_" ∷ []) ":50K:/>b*b\ndeutdeff\n5/Cza:A\n deutdeff\r//zXBY>A\n5/]_") ∷
    by "F" "//ABCDEFGHIJKLMNOPQRSTUVWXYZ012345678\r\n\n\n" (no 2 1) ∷
    by "K" "ABCDEFGHIJKL\r1/8:+y1\nABCDEFGHIJKLMNOPQRSTUVWXYZ012345678\n/#?!c\n\n/A+9.(=//*\r" (no 7 0) ∷
    by "B" "/A\nABC<EFGHIJKLMNOPQRSTUVWXYZ01234567\nB" (ok Field50K (some "A") "" ("ABC<EFGHIJKLMNOPQRSTUVWXYZ01234567" ∷ "B" ∷ []) ":50K:/A\nABC<EFGHIJKLMNOPQRSTUVWXYZ01234567\nB") ∷
    without "i/C/12345678\n^EUTDEFF500\nNOT REA/D" (no 11 0) ∷
    by "L" "" (no 11 0) ∷
    by "K" "/C/;..\r\nABCDEFGHIJKLMNOPQRSTUVWXYZ012345678\r\n'x\r\nABCDEFGHIJKLMNOPQRSTUVWXYZ012345678" (ok Field50K (some "C/;..") "" ("ABCDEFGHIJKLMNOPQRSTUVWXYZ012345678" ∷ "'x" ∷ "ABCDEFGHIJKLMNOPQRSTUVWXYZ012345678" ∷ []) ":50K:/C/;..\nABCDEFGHIJKLMNOPQRSTUVWXYZ012345678\n'x\nABCDEFGHIJKLMNOPQRSTUVWXYZ012345678") ∷
    without "DEUTDEFDEUTDE-F500" (ok Field50K none "" ("DEUTDEFDEUTDE-F500" ∷ []) ":50K:DEUTDEFDEUTDE-F500") ∷
    by "K" "//CH\u{7f}2&456\r\n\r\n" (no 3 1) ∷
    parse "/C/12345678/DEUTDEFF500\nNOT READ" (ok Field50K (some "C/12345678/DEUTDEFF500") "" ("NOT READ" ∷ []) ":50K:/C/12345678/DEUTDEFF500\nNOT READ") ∷
    parse " AbCdEf12\nXzz\nABCDEFGHIJKLMNOPQRSTUVWXYZ0123456" (ok Field50K none "" (" AbCdEf12" ∷ "Xzz" ∷ "ABCDEFGHIJKLMNOPQRSTUVWXYZ0123456" ∷ []) ":50K: AbCdEf12\nXzz\nABCDEFGHIJKLMNOPQRSTUVWXYZ0123456") ∷
    by "F" "//RT1\r\nABCDEFGH" (no 5 2) ∷
    by "A" "ABCDEFGHIJKLMNOPQRSTUVWXYZ0123456\n\n" (no 9 1) ∷
    without "X\n1\r\\A\n2/A\n3/A\n4/ABCDEFGHIJKLMNOPQRSTUVWXYZ01234567" (no 11 0) ∷
    by "K" "A\nA\nA\nABCDEFHIJKLMNOP:RSTUVW" (ok Field50K none "" ("A" ∷ "A" ∷ "A" ∷ "ABCDEFHIJKLMNOP:RSTUVW" ∷ []) ":50K:A\nA\nA\nABCDEFHIJKLMNOP:RSTUVW") ∷
    by "K" "XY\n1/{.?;B\n2/b\n3/{!y=@Z\n4/;z?Y&$" (no 7 0) ∷
    parse "NIDN/DE/121231234342\n1/MANN GEORG\n6/DE/ABC BANK/12^4578^293" (no 11 0) ∷
    by "F" "/=|=]/\r/9${[[\n2/@@> Z" (ok Field50F (some "/=|=]/\r/9${[[") "" ("@@> Z" ∷ []) ":50F:/=|=]/\r/9${[[\n1/@@> Z") ∷
    by "K" "X\n1/A\n2/A\n3/A\n4/ABCDEFGHIJKLMNOPQRSSTUVWXA\n3/A\n4/ABCDEFGHIJKLMNOPQRSSTUVWXYZ01:23456" (no 4 7) ∷
    by "F" "X,.|z0?-\u{7f}1/*\n2/\n3/" (no 3 1) ∷
    by "K" "/DE89370400440532013000\nJOHN D\rOE\n123 " (ok Field50K (some "DE89370400440532013000") "" ("JOHN D\rOE" ∷ "123 " ∷ []) ":50K:/DE89370400440532013000\nJOHN D\rOE\n123 ") ∷
    by "F" "X\n1/&&'<\n2/ABCDEFGHIJKLMNOPQRSTUVWXYZ012345\n3/ABCDEFGHIJKLMNOPQRSTUVWXYZ0123456\n4/" (ok Field50F (some "X") "" ("&&'<" ∷ "ABCDEFGHIJKLMNOPQRSTUVWXYZ012345" ∷ "ABCDEFGHIJKLMNOPQRSTUVWXYZ0123456" ∷ "" ∷ []) ":50F:X\n1/&&'<\n2/ABCDEFGHIJKLMNOPQRSTUVWXYZ012345\n3/ABCDEFGHIJKLMNOPQRSTUVWXYZ0123456\n4/") ∷
    by "A" " ABCDEF123AZ\n/\n UBSWCHZ0\r/>-?&\",/XX" (no 9 1) ∷
    by "A" "//Z;:X\n1b(0aX\r\n/\n AbCdEf12\n/ABCDEFGHIJKLMNOPQRSTUVWXYZ012345678" (no 9 2) ∷
    by "F" "/#c/\r\n" (no 1 0) ∷
    by "K" "C\nzyx\n:#aX/B\n" (ok Field50K none "" ("C" ∷ "zyx" ∷ ":#aX/B" ∷ []) ":50K:C\nzyx\n:#aX/B") ∷
    without " deutdeff\n\n" (ok Field50K none "" (" deutdeff" ∷ "" ∷ []) ":50K: deutdeff\n") ∷
    by "F" " AbCdEf12\n1/89)=A]\rDEUTDEFF500\n9//#=[8\n4/Z$;\n5/ABCDEFGHIJKLMNOPQRSTUVWXYZ012345\nABCDEFGHI" (no 5 6) ∷
    by "F" "NIDN/DE/121231234\\342\n1/MANN GEOG\n6/DE/ABC" (no 3 1) ∷
    []

-- Made of crates/replay/stdin by tests/rust/listed: the cases of 50.
use Rattle.std.specs.Prelude.{List, [], ◌∷◌}
use Rattle.std.proofs.Math.Option.{none}
use Rattle.party.specs.declared.PartyOption.TheVariants.{Field50NoOption}
use Rattle.swift_mt_message.specs.Cases.{Case, parse, ok, no}

abbrev pub cases : List Case
cases =
    parse "A\nA\nA\nA\nA" (no 1 0) ∷
    parse "\n" (ok Field50NoOption none "" ("" ∷ []) ":50:") ∷
    parse "A\n:" (ok Field50NoOption none "" ("A" ∷ ":" ∷ []) ":50:A\n:") ∷
    parse "A\n-" (ok Field50NoOption none "" ("A" ∷ "-" ∷ []) ":50:A\n-") ∷
    parse "" (no 1 0) ∷
    parse "A\nB\nC\nD\nE" (no 1 0) ∷
    parse "\n\n\n\n\n" (no 1 0) ∷
    parse "~\nB\nC\nD\nE" (no 1 0) ∷
    parse "~" (no 3 1) ∷
    parse "A\0" (no 3 1) ∷
    parse "A\n~" (no 3 2) ∷
    parse "A\nA\0" (no 3 2) ∷
    parse "A\nA\n~" (no 3 3) ∷
    parse "A\nA\nA\0" (no 3 3) ∷
    parse "A\nA\nA\n~" (no 3 4) ∷
    parse "A\nA\nA\nA\0" (no 3 4) ∷
    parse "ABCDEFGHIJKLMNOPQRSTUVWXYZ0123456789" (no 4 1) ∷
    parse "A\nABCDEFGHIJKLMNOPQRSTUVWXYZ0123456789" (no 4 2) ∷
    parse "A\nA\nABCDEFGHIJKLMNOPQRSTUVWXYZ0123456789" (no 4 3) ∷
    parse "A\nA\nA\nABCDEFGHIJKLMNOPQRSTUVWXYZ0123456789" (no 4 4) ∷
    parse "A" (ok Field50NoOption none "" ("A" ∷ []) ":50:A") ∷
    parse "A\nA" (ok Field50NoOption none "" ("A" ∷ "A" ∷ []) ":50:A\nA") ∷
    parse "A\nA\nA" (ok Field50NoOption none "" ("A" ∷ "A" ∷ "A" ∷ []) ":50:A\nA\nA") ∷
    parse "A\nA\nA\nA" (ok Field50NoOption none "" ("A" ∷ "A" ∷ "A" ∷ "A" ∷ []) ":50:A\nA\nA\nA") ∷
    parse "A\nA\nA\nA\nA\nA" (no 1 0) ∷
    parse "ABCDEFGHIJKLMNOPQRSTUVWXYZ01234567" (ok Field50NoOption none "" ("ABCDEFGHIJKLMNOPQRSTUVWXYZ01234567" ∷ []) ":50:ABCDEFGHIJKLMNOPQRSTUVWXYZ01234567") ∷
    parse "ABCDEFGHIJKLMNOPQRSTUVWXYZ012345678" (ok Field50NoOption none "" ("ABCDEFGHIJKLMNOPQRSTUVWXYZ012345678" ∷ []) ":50:ABCDEFGHIJKLMNOPQRSTUVWXYZ012345678") ∷
    parse "A\nA\nA\n" (ok Field50NoOption none "" ("A" ∷ "A" ∷ "A" ∷ []) ":50:A\nA\nA") ∷
    parse "A\nA\nA\nABCDEFGHIJKLMNOPQRSTUVWXYZ01234567" (ok Field50NoOption none "" ("A" ∷ "A" ∷ "A" ∷ "ABCDEFGHIJKLMNOPQRSTUVWXYZ01234567" ∷ []) ":50:A\nA\nA\nABCDEFGHIJKLMNOPQRSTUVWXYZ01234567") ∷
    parse "A\nA\nA\nABCDEFGHIJKLMNOPQRSTUVWXYZ012345678" (ok Field50NoOption none "" ("A" ∷ "A" ∷ "A" ∷ "ABCDEFGHIJKLMNOPQRSTUVWXYZ012345678" ∷ []) ":50:A\nA\nA\nABCDEFGHIJKLMNOPQRSTUVWXYZ012345678") ∷
    parse "\nB" (ok Field50NoOption none "" ("" ∷ "B" ∷ []) ":50:\nB") ∷
    parse "A\nB" (ok Field50NoOption none "" ("A" ∷ "B" ∷ []) ":50:A\nB") ∷
    parse "ABCDEFGHIJKLMNOPQRSTUVWXYZ01234567\nB" (ok Field50NoOption none "" ("ABCDEFGHIJKLMNOPQRSTUVWXYZ01234567" ∷ "B" ∷ []) ":50:ABCDEFGHIJKLMNOPQRSTUVWXYZ01234567\nB") ∷
    parse "ABCDEFGHIJKLMNOPQRSTUVWXYZ012345678\nB" (ok Field50NoOption none "" ("ABCDEFGHIJKLMNOPQRSTUVWXYZ012345678" ∷ "B" ∷ []) ":50:ABCDEFGHIJKLMNOPQRSTUVWXYZ012345678\nB") ∷
    parse "ABCDEFGHIJKLMNOPQRSTUVWXYZ0123456789\nB" (no 4 1) ∷
    parse "\rA" (ok Field50NoOption none "" ("\rA" ∷ []) ":50:\rA") ∷
    parse "A\r" (ok Field50NoOption none "" ("A\r" ∷ []) ":50:A\r") ∷
    parse "\nA" (ok Field50NoOption none "" ("" ∷ "A" ∷ []) ":50:\nA") ∷
    parse "A\n" (ok Field50NoOption none "" ("A" ∷ []) ":50:A") ∷
    parse "\r\nA" (ok Field50NoOption none "" ("" ∷ "A" ∷ []) ":50:\nA") ∷
    parse "A\r\n" (ok Field50NoOption none "" ("A" ∷ []) ":50:A") ∷
    parse "\r" (ok Field50NoOption none "" ("\r" ∷ []) ":50:\r") ∷
    parse "\rA\nB" (ok Field50NoOption none "" ("\rA" ∷ "B" ∷ []) ":50:\rA\nB") ∷
    parse "A\r\nB" (ok Field50NoOption none "" ("A" ∷ "B" ∷ []) ":50:A\nB") ∷
    parse "A\n\rB" (ok Field50NoOption none "" ("A" ∷ "\rB" ∷ []) ":50:A\n\rB") ∷
    parse "A\nB\r" (ok Field50NoOption none "" ("A" ∷ "B\r" ∷ []) ":50:A\nB\r") ∷
    parse "\nA\nB" (ok Field50NoOption none "" ("" ∷ "A" ∷ "B" ∷ []) ":50:\nA\nB") ∷
    parse "A\n\nB" (ok Field50NoOption none "" ("A" ∷ "" ∷ "B" ∷ []) ":50:A\n\nB") ∷
    parse "A\nB\n" (ok Field50NoOption none "" ("A" ∷ "B" ∷ []) ":50:A\nB") ∷
    parse "\r\nA\nB" (ok Field50NoOption none "" ("" ∷ "A" ∷ "B" ∷ []) ":50:\nA\nB") ∷
    parse "A\r\n\nB" (ok Field50NoOption none "" ("A" ∷ "" ∷ "B" ∷ []) ":50:A\n\nB") ∷
    parse "A\n\r\nB" (ok Field50NoOption none "" ("A" ∷ "" ∷ "B" ∷ []) ":50:A\n\nB") ∷
    parse "A\nB\r\n" (ok Field50NoOption none "" ("A" ∷ "B" ∷ []) ":50:A\nB") ∷
    parse "\r\nB" (ok Field50NoOption none "" ("" ∷ "B" ∷ []) ":50:\nB") ∷
    parse "A\rB" (ok Field50NoOption none "" ("A\rB" ∷ []) ":50:A\rB") ∷
    parse "A\n\r" (ok Field50NoOption none "" ("A" ∷ "\r" ∷ []) ":50:A\n\r") ∷
    parse "\n\nB" (ok Field50NoOption none "" ("" ∷ "" ∷ "B" ∷ []) ":50:\n\nB") ∷
    parse "A\n\n" (ok Field50NoOption none "" ("A" ∷ "" ∷ []) ":50:A\n") ∷
    parse "\0\nB" (no 3 1) ∷
    parse " \nB" (ok Field50NoOption none "" (" " ∷ "B" ∷ []) ":50: \nB") ∷
    parse "/\nB" (ok Field50NoOption none "" ("/" ∷ "B" ∷ []) ":50:/\nB") ∷
    parse "@\nB" (ok Field50NoOption none "" ("@" ∷ "B" ∷ []) ":50:@\nB") ∷
    parse "[\nB" (ok Field50NoOption none "" ("[" ∷ "B" ∷ []) ":50:[\nB") ∷
    parse "z\nB" (ok Field50NoOption none "" ("z" ∷ "B" ∷ []) ":50:z\nB") ∷
    parse "~\nB" (no 3 1) ∷
    parse "A\tB" (no 3 1) ∷
    parse "A!B" (ok Field50NoOption none "" ("A!B" ∷ []) ":50:A!B") ∷
    parse "A0B" (ok Field50NoOption none "" ("A0B" ∷ []) ":50:A0B") ∷
    parse "AZB" (ok Field50NoOption none "" ("AZB" ∷ []) ":50:AZB") ∷
    parse "AaB" (ok Field50NoOption none "" ("AaB" ∷ []) ":50:AaB") ∷
    parse "A{B" (ok Field50NoOption none "" ("A{B" ∷ []) ":50:A{B") ∷
    parse "A\n\0" (no 3 2) ∷
    parse "A\n " (ok Field50NoOption none "" ("A" ∷ " " ∷ []) ":50:A\n ") ∷
    parse "A\n/" (ok Field50NoOption none "" ("A" ∷ "/" ∷ []) ":50:A\n/") ∷
    parse "A\n@" (ok Field50NoOption none "" ("A" ∷ "@" ∷ []) ":50:A\n@") ∷
    parse "A\n[" (ok Field50NoOption none "" ("A" ∷ "[" ∷ []) ":50:A\n[") ∷
    parse "A\nz" (ok Field50NoOption none "" ("A" ∷ "z" ∷ []) ":50:A\nz") ∷
    parse "1zC\r\nz?" (ok Field50NoOption none "" ("1zC" ∷ "z?" ∷ []) ":50:1zC\nz?") ∷
    parse "A\nA\nA\nA=CD\nEF\u{1d}GHIJKLMNOPQRSTUVWXYZ012345678" (no 1 0) ∷
    parse "JJ" (ok Field50NoOption none "" ("JJ" ∷ []) ":50:JJ") ∷
    parse "ABCDEFGHIJKL\nABCDEFGHIJKLMNOPQRSTUVWXYZ012345678\r//bA*8z\r\nABCDEFGHIJK\r9/ABCDEFGHIJKLMNOPQRSTUVWXYZ0123456\r\n5/" (no 4 2) ∷
    parse ">CxB(_\n?y8B<Y\nb\nz1A" (ok Field50NoOption none "" (">CxB(_" ∷ "?y8B<Y" ∷ "b" ∷ "z1A" ∷ []) ":50:>CxB(_\n?y8B<Y\nb\nz1A") ∷
    parse "zZy\n<}\n" (ok Field50NoOption none "" ("zZy" ∷ "<}" ∷ []) ":50:zZy\n<}") ∷
    parse "/AcZ--/X1Y'@\ndeutdeff\n2/ABCDEFGHIJKLMNOPQRSTUVWXYZ012345\n1/#\n" (ok Field50NoOption none "" ("/AcZ--/X1Y'@" ∷ "deutdeff" ∷ "2/ABCDEFGHIJKLMNOPQRSTUVWXYZ012345" ∷ "1/#" ∷ []) ":50:/AcZ--/X1Y'@\ndeutdeff\n2/ABCDEFGHIJKLMNOPQRSTUVWXYZ012345\n1/#") ∷
    parse "ACME LTD\n1 HI\u{2}H STjEET\nLOND^ON" (no 3 2) ∷
    parse "0/>0,b\r\n\rABCDEF123AZ" (ok Field50NoOption none "" ("0/>0,b" ∷ "\rABCDEF123AZ" ∷ []) ":50:0/>0,b\n\rABCDEF123AZ") ∷
    parse "\r\nABCDEFGHIJKLMNOPQRSTUVWYZ01234567\r\n19\"" (ok Field50NoOption none "" ("" ∷ "ABCDEFGHIJKLMNOPQRSTUVWYZ01234567" ∷ "19\"" ∷ []) ":50:\nABCDEFGHIJKLMNOPQRSTUVWYZ01234567\n19\"") ∷
    parse "ABCDEFGHIJKLMNOPQRSTUVWXYZ0123456\r\n\r/B/" (ok Field50NoOption none "" ("ABCDEFGHIJKLMNOPQRSTUVWXYZ0123456" ∷ "\r/B/" ∷ []) ":50:ABCDEFGHIJKLMNOPQRSTUVWXYZ0123456\n\r/B/") ∷
    parse "//.?,\r\n//z\r\n2/-<(\"9\r\nDEUTDEFF500\n" (ok Field50NoOption none "" ("//.?," ∷ "//z" ∷ "2/-<(\"9" ∷ "DEUTDEFF500" ∷ []) ":50://.?,\n//z\n2/-<(\"9\nDEUTDEFF500") ∷
    parse " deutdeff\r\n//-yz +Y\n/](." (ok Field50NoOption none "" (" deutdeff" ∷ "//-yz +Y" ∷ "/](." ∷ []) ":50: deutdeff\n//-yz +Y\n/](.") ∷
    parse "A\n~\nA\nA" (no 3 2) ∷
    parse "!(\n>:@$>%\nABCDEFGHIJKLMNAPQRSTUVWXYZ01234567\n 1" (ok Field50NoOption none "" ("!(" ∷ ">:@$>%" ∷ "ABCDEFGHIJKLMNAPQRSTUVWXYZ01234567" ∷ " 1" ∷ []) ":50:!(\n>:@$>%\nABCDEFGHIJKLMNAPQRSTUVWXYZ01234567\n 1") ∷
    parse "{:B\r\n})AS:b[\r\n" (ok Field50NoOption none "" ("{:B" ∷ "})AS:b[" ∷ []) ":50:{:B\n})AS:b[") ∷
    []

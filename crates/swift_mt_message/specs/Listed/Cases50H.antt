-- Made of crates/replay/stdin by tests/rust/listed: the cases of 50H.
use Rattle.std.specs.Prelude.{List, [], ◌∷◌}
use Rattle.std.proofs.Math.Option.{some}
use Rattle.party.specs.declared.PartyOption.TheVariants.{Field50H}
use Rattle.swift_mt_message.specs.Cases.{Case, parse, ok, no}

abbrev pub cases : List Case
cases =
    parse "/~\nA" (no 3 1) ∷
    parse "/~\n~" (no 3 1) ∷
    parse "/~\n\n\n\n\n\n" (no 3 1) ∷
    parse "" (no 1 0) ∷
    parse "/A" (no 1 0) ∷
    parse "/A\n" (no 1 0) ∷
    parse "A\nA" (no 2 1) ∷
    parse "/\nA" (no 2 1) ∷
    parse "\nA" (no 2 1) ∷
    parse "~\nA" (no 2 1) ∷
    parse "/A\n~\n~" (no 3 2) ∷
    parse "/A\n~" (no 3 2) ∷
    parse "/A\nA\0\n~" (no 3 2) ∷
    parse "/A\nA\0" (no 3 2) ∷
    parse "/A\nA\n~\n~" (no 3 3) ∷
    parse "/A\nA\n~" (no 3 3) ∷
    parse "/A\nA\nA\0\n~" (no 3 3) ∷
    parse "/A\nA\nA\0" (no 3 3) ∷
    parse "/A\nA\nA\n~\n~" (no 3 4) ∷
    parse "/A\nA\nA\n~" (no 3 4) ∷
    parse "/A\nA\nA\nA\0\n~" (no 3 4) ∷
    parse "/A\nA\nA\nA\0" (no 3 4) ∷
    parse "/A\nA\nA\nA\n~\n~" (no 3 5) ∷
    parse "/A\nA\nA\nA\n~" (no 3 5) ∷
    parse "/A\nA\nA\nA\nA\0\n~" (no 3 5) ∷
    parse "/A\nA\nA\nA\nA\0" (no 3 5) ∷
    parse "/A\nA\nA\nA\nA\n~\n~" (no 3 6) ∷
    parse "/A\nA\nA\nA\nA\n~" (no 3 6) ∷
    parse "/A\nA\nA\nA\nA\nA\0\n~" (no 3 6) ∷
    parse "/A\nA\nA\nA\nA\nA\0" (no 3 6) ∷
    parse "/A\nA\nA\nA\nA\nA\n~\n~" (no 3 7) ∷
    parse "/A\nA\nA\nA\nA\nA\n~" (no 3 7) ∷
    parse "/A\nA\nA\nA\nA\nA\nA\0\n~" (no 3 7) ∷
    parse "/A\nA\nA\nA\nA\nA\nA\0" (no 3 7) ∷
    parse "/A\nA\nA\nA\nA\nA\nA\n~\n~" (no 3 8) ∷
    parse "/A\nA\nA\nA\nA\nA\nA\n~" (no 3 8) ∷
    parse "/A\nA\nA\nA\nA\nA\nA\nA\0\n~" (no 3 8) ∷
    parse "/A\nA\nA\nA\nA\nA\nA\nA\0" (no 3 8) ∷
    parse "/A\nA\nA\nA\nA\nA\nA\nA\n~\n~" (no 3 9) ∷
    parse "/A\nA\nA\nA\nA\nA\nA\nA\n~" (no 3 9) ∷
    parse "/A\nA\nA\nA\nA\nA\nA\nA\nA\0\n~" (no 3 9) ∷
    parse "/A\nA\nA\nA\nA\nA\nA\nA\nA\0" (no 3 9) ∷
    parse "/A\nA\nA\nA\nA\nA\nA\nA\nA\n~\n~" (no 3 10) ∷
    parse "/A\nA\nA\nA\nA\nA\nA\nA\nA\n~" (no 3 10) ∷
    parse "/A\nA\nA\nA\nA\nA\nA\nA\nA\nA\0\n~" (no 3 10) ∷
    parse "/A\nA\nA\nA\nA\nA\nA\nA\nA\nA\0" (no 3 10) ∷
    parse "/A\nA\nA\nA\nA\nA\nA\nA\nA\nA\n~\n~" (no 3 11) ∷
    parse "/A\nA\nA\nA\nA\nA\nA\nA\nA\nA\n~" (no 3 11) ∷
    parse "/A\nA\nA\nA\nA\nA\nA\nA\nA\nA\nA\0\n~" (no 3 11) ∷
    parse "/A\nA\nA\nA\nA\nA\nA\nA\nA\nA\nA\0" (no 3 11) ∷
    parse "/A\nA\nA\nA\nA\nA\nA\nA\nA\nA\nA\nA\nA\nA\nA\nA\nA\nA\nA\nA\nA\nA\nA\nA\nA\nA\nA\nA\nA\nA\nA\nA\nA\nA\nA\nA\nA\nA\nA\n~\n~" (no 3 40) ∷
    parse "/A\nA\nA\nA\nA\nA\nA\nA\nA\nA\nA\nA\nA\nA\nA\nA\nA\nA\nA\nA\nA\nA\nA\nA\nA\nA\nA\nA\nA\nA\nA\nA\nA\nA\nA\nA\nA\nA\nA\n~" (no 3 40) ∷
    parse "/A\nA\nA\nA\nA\nA\nA\nA\nA\nA\nA\nA\nA\nA\nA\nA\nA\nA\nA\nA\nA\nA\nA\nA\nA\nA\nA\nA\nA\nA\nA\nA\nA\nA\nA\nA\nA\nA\nA\nA\0\n~" (no 3 40) ∷
    parse "/A\nA\nA\nA\nA\nA\nA\nA\nA\nA\nA\nA\nA\nA\nA\nA\nA\nA\nA\nA\nA\nA\nA\nA\nA\nA\nA\nA\nA\nA\nA\nA\nA\nA\nA\nA\nA\nA\nA\nA\0" (no 3 40) ∷
    parse "/A\nABCDEFGHIJKLMNOPQRSTUVWXYZ0123456789\n~" (no 4 2) ∷
    parse "/A\nABCDEFGHIJKLMNOPQRSTUVWXYZ0123456789" (no 4 2) ∷
    parse "/A\nA\nABCDEFGHIJKLMNOPQRSTUVWXYZ0123456789\n~" (no 4 3) ∷
    parse "/A\nA\nABCDEFGHIJKLMNOPQRSTUVWXYZ0123456789" (no 4 3) ∷
    parse "/A\nA\nA\nABCDEFGHIJKLMNOPQRSTUVWXYZ0123456789\n~" (no 4 4) ∷
    parse "/A\nA\nA\nABCDEFGHIJKLMNOPQRSTUVWXYZ0123456789" (no 4 4) ∷
    parse "/A\nA\nA\nA\nABCDEFGHIJKLMNOPQRSTUVWXYZ0123456789\n~" (no 4 5) ∷
    parse "/A\nA\nA\nA\nABCDEFGHIJKLMNOPQRSTUVWXYZ0123456789" (no 4 5) ∷
    parse "/A\nA\nA\nA\nA\nABCDEFGHIJKLMNOPQRSTUVWXYZ0123456789\n~" (no 4 6) ∷
    parse "/A\nA\nA\nA\nA\nABCDEFGHIJKLMNOPQRSTUVWXYZ0123456789" (no 4 6) ∷
    parse "/A\nA\nA\nA\nA\nA\nABCDEFGHIJKLMNOPQRSTUVWXYZ0123456789\n~" (no 4 7) ∷
    parse "/A\nA\nA\nA\nA\nA\nABCDEFGHIJKLMNOPQRSTUVWXYZ0123456789" (no 4 7) ∷
    parse "/A\nA\nA\nA\nA\nA\nA\nABCDEFGHIJKLMNOPQRSTUVWXYZ0123456789\n~" (no 4 8) ∷
    parse "/A\nA\nA\nA\nA\nA\nA\nABCDEFGHIJKLMNOPQRSTUVWXYZ0123456789" (no 4 8) ∷
    parse "/A\nA\nA\nA\nA\nA\nA\nA\nABCDEFGHIJKLMNOPQRSTUVWXYZ0123456789\n~" (no 4 9) ∷
    parse "/A\nA\nA\nA\nA\nA\nA\nA\nABCDEFGHIJKLMNOPQRSTUVWXYZ0123456789" (no 4 9) ∷
    parse "/A\nA\nA\nA\nA\nA\nA\nA\nA\nABCDEFGHIJKLMNOPQRSTUVWXYZ0123456789\n~" (no 4 10) ∷
    parse "/A\nA\nA\nA\nA\nA\nA\nA\nA\nABCDEFGHIJKLMNOPQRSTUVWXYZ0123456789" (no 4 10) ∷
    parse "/A\nA\nA\nA\nA\nA\nA\nA\nA\nA\nABCDEFGHIJKLMNOPQRSTUVWXYZ0123456789\n~" (no 4 11) ∷
    parse "/A\nA\nA\nA\nA\nA\nA\nA\nA\nA\nABCDEFGHIJKLMNOPQRSTUVWXYZ0123456789" (no 4 11) ∷
    parse "/A\nA\nA\nA\nA\nA\nA\nA\nA\nA\nA\nA\nA\nA\nA\nA\nA\nA\nA\nA\nA\nA\nA\nA\nA\nA\nA\nA\nA\nA\nA\nA\nA\nA\nA\nA\nA\nA\nA\nABCDEFGHIJKLMNOPQRSTUVWXYZ0123456789\n~" (no 4 40) ∷
    parse "/A\nA\nA\nA\nA\nA\nA\nA\nA\nA\nA\nA\nA\nA\nA\nA\nA\nA\nA\nA\nA\nA\nA\nA\nA\nA\nA\nA\nA\nA\nA\nA\nA\nA\nA\nA\nA\nA\nA\nABCDEFGHIJKLMNOPQRSTUVWXYZ0123456789" (no 4 40) ∷
    parse "/A\nA\nA\nA\nA\nA" (no 7 0) ∷
    parse "/A\n\n\n\n\n\n" (no 7 0) ∷
    parse "/A\nA" (ok Field50H (some "A") "" ("A" ∷ []) ":50H:/A\nA") ∷
    parse "/ABCDEFGHIJKLMNOPQRSTUVWXYZ0123456\nA" (ok Field50H (some "ABCDEFGHIJKLMNOPQRSTUVWXYZ0123456") "" ("A" ∷ []) ":50H:/ABCDEFGHIJKLMNOPQRSTUVWXYZ0123456\nA") ∷
    parse "/ABCDEFGHIJKLMNOPQRSTUVWXYZ01234567\nA" (ok Field50H (some "ABCDEFGHIJKLMNOPQRSTUVWXYZ01234567") "" ("A" ∷ []) ":50H:/ABCDEFGHIJKLMNOPQRSTUVWXYZ01234567\nA") ∷
    parse "/ABCDEFGHIJKLMNOPQRSTUVWXYZ012345678\nA" (no 2 1) ∷
    parse "/ABCDEFGHIJKLMNOPQRSTUVWXYZ0123456789\nA" (no 2 1) ∷
    parse "/" (no 1 0) ∷
    parse "/ABCDEFGHIJKLMNOPQRSTUVWXYZ0123456" (no 1 0) ∷
    parse "/ABCDEFGHIJKLMNOPQRSTUVWXYZ01234567" (no 1 0) ∷
    parse "/ABCDEFGHIJKLMNOPQRSTUVWXYZ012345678" (no 1 0) ∷
    parse "/ABCDEFGHIJKLMNOPQRSTUVWXYZ0123456789" (no 1 0) ∷
    parse "/A\nA\nA" (ok Field50H (some "A") "" ("A" ∷ "A" ∷ []) ":50H:/A\nA\nA") ∷
    parse "/A\nA\nA\nA" (ok Field50H (some "A") "" ("A" ∷ "A" ∷ "A" ∷ []) ":50H:/A\nA\nA\nA") ∷
    parse "/A\nA\nA\nA\nA" (ok Field50H (some "A") "" ("A" ∷ "A" ∷ "A" ∷ "A" ∷ []) ":50H:/A\nA\nA\nA\nA") ∷
    parse "/A\nA\nA\nA\nA\nA\nA" (no 7 0) ∷
    parse "/A\nABCDEFGHIJKLMNOPQRSTUVWXYZ01234567" (ok Field50H (some "A") "" ("ABCDEFGHIJKLMNOPQRSTUVWXYZ01234567" ∷ []) ":50H:/A\nABCDEFGHIJKLMNOPQRSTUVWXYZ01234567") ∷
    parse "/A\nABCDEFGHIJKLMNOPQRSTUVWXYZ012345678" (ok Field50H (some "A") "" ("ABCDEFGHIJKLMNOPQRSTUVWXYZ012345678" ∷ []) ":50H:/A\nABCDEFGHIJKLMNOPQRSTUVWXYZ012345678") ∷
    parse "/A\nA\nA\nA\n" (ok Field50H (some "A") "" ("A" ∷ "A" ∷ "A" ∷ []) ":50H:/A\nA\nA\nA") ∷
    parse "/A\nA\nA\nA\nABCDEFGHIJKLMNOPQRSTUVWXYZ01234567" (ok Field50H (some "A") "" ("A" ∷ "A" ∷ "A" ∷ "ABCDEFGHIJKLMNOPQRSTUVWXYZ01234567" ∷ []) ":50H:/A\nA\nA\nA\nABCDEFGHIJKLMNOPQRSTUVWXYZ01234567") ∷
    parse "/A\nA\nA\nA\nABCDEFGHIJKLMNOPQRSTUVWXYZ012345678" (ok Field50H (some "A") "" ("A" ∷ "A" ∷ "A" ∷ "ABCDEFGHIJKLMNOPQRSTUVWXYZ012345678" ∷ []) ":50H:/A\nA\nA\nA\nABCDEFGHIJKLMNOPQRSTUVWXYZ012345678") ∷
    parse "/A\n\nB" (ok Field50H (some "A") "" ("" ∷ "B" ∷ []) ":50H:/A\n\nB") ∷
    parse "/A\nA\nB" (ok Field50H (some "A") "" ("A" ∷ "B" ∷ []) ":50H:/A\nA\nB") ∷
    parse "/A\nABCDEFGHIJKLMNOPQRSTUVWXYZ01234567\nB" (ok Field50H (some "A") "" ("ABCDEFGHIJKLMNOPQRSTUVWXYZ01234567" ∷ "B" ∷ []) ":50H:/A\nABCDEFGHIJKLMNOPQRSTUVWXYZ01234567\nB") ∷
    parse "/A\nABCDEFGHIJKLMNOPQRSTUVWXYZ012345678\nB" (ok Field50H (some "A") "" ("ABCDEFGHIJKLMNOPQRSTUVWXYZ012345678" ∷ "B" ∷ []) ":50H:/A\nABCDEFGHIJKLMNOPQRSTUVWXYZ012345678\nB") ∷
    parse "/A\nABCDEFGHIJKLMNOPQRSTUVWXYZ0123456789\nB" (no 4 2) ∷
    parse "\r/1\nA\nB" (no 2 1) ∷
    parse "/\r1\nA\nB" (ok Field50H (some "\r1") "" ("A" ∷ "B" ∷ []) ":50H:/\r1\nA\nB") ∷
    parse "/1\r\nA\nB" (ok Field50H (some "1") "" ("A" ∷ "B" ∷ []) ":50H:/1\nA\nB") ∷
    parse "/1\n\rA\nB" (ok Field50H (some "1") "" ("\rA" ∷ "B" ∷ []) ":50H:/1\n\rA\nB") ∷
    parse "/1\nA\r\nB" (ok Field50H (some "1") "" ("A" ∷ "B" ∷ []) ":50H:/1\nA\nB") ∷
    parse "/1\nA\n\rB" (ok Field50H (some "1") "" ("A" ∷ "\rB" ∷ []) ":50H:/1\nA\n\rB") ∷
    parse "/1\nA\nB\r" (ok Field50H (some "1") "" ("A" ∷ "B\r" ∷ []) ":50H:/1\nA\nB\r") ∷
    parse "\n/1\nA\nB" (no 2 1) ∷
    parse "/\n1\nA\nB" (no 2 1) ∷
    parse "/1\n\nA\nB" (ok Field50H (some "1") "" ("" ∷ "A" ∷ "B" ∷ []) ":50H:/1\n\nA\nB") ∷
    parse "/1\nA\n\nB" (ok Field50H (some "1") "" ("A" ∷ "" ∷ "B" ∷ []) ":50H:/1\nA\n\nB") ∷
    parse "/1\nA\nB\n" (ok Field50H (some "1") "" ("A" ∷ "B" ∷ []) ":50H:/1\nA\nB") ∷
    parse "\r\n/1\nA\nB" (no 2 1) ∷
    parse "/\r\n1\nA\nB" (no 2 1) ∷
    parse "/1\r\n\nA\nB" (ok Field50H (some "1") "" ("" ∷ "A" ∷ "B" ∷ []) ":50H:/1\n\nA\nB") ∷
    parse "/1\n\r\nA\nB" (ok Field50H (some "1") "" ("" ∷ "A" ∷ "B" ∷ []) ":50H:/1\n\nA\nB") ∷
    parse "/1\nA\r\n\nB" (ok Field50H (some "1") "" ("A" ∷ "" ∷ "B" ∷ []) ":50H:/1\nA\n\nB") ∷
    parse "/1\nA\n\r\nB" (ok Field50H (some "1") "" ("A" ∷ "" ∷ "B" ∷ []) ":50H:/1\nA\n\nB") ∷
    parse "/1\nA\nB\r\n" (ok Field50H (some "1") "" ("A" ∷ "B" ∷ []) ":50H:/1\nA\nB") ∷
    parse "\r1\nA\nB" (no 2 1) ∷
    parse "/\r\nA\nB" (no 2 1) ∷
    parse "/1\rA\nB" (ok Field50H (some "1\rA") "" ("B" ∷ []) ":50H:/1\rA\nB") ∷
    parse "/1\n\r\nB" (ok Field50H (some "1") "" ("" ∷ "B" ∷ []) ":50H:/1\n\nB") ∷
    parse "/1\nA\rB" (ok Field50H (some "1") "" ("A\rB" ∷ []) ":50H:/1\nA\rB") ∷
    parse "/1\nA\n\r" (ok Field50H (some "1") "" ("A" ∷ "\r" ∷ []) ":50H:/1\nA\n\r") ∷
    parse "\n1\nA\nB" (no 2 1) ∷
    parse "/\n\nA\nB" (no 2 1) ∷
    parse "/1\nA\nB" (ok Field50H (some "1") "" ("A" ∷ "B" ∷ []) ":50H:/1\nA\nB") ∷
    parse "/1\n\n\nB" (ok Field50H (some "1") "" ("" ∷ "" ∷ "B" ∷ []) ":50H:/1\n\n\nB") ∷
    parse "/1\nA\n\n" (ok Field50H (some "1") "" ("A" ∷ "" ∷ []) ":50H:/1\nA\n") ∷
    parse "/\0\nA" (no 3 1) ∷
    parse "/\u{1}\nA" (no 3 1) ∷
    parse "/\u{2}\nA" (no 3 1) ∷
    parse "/\u{3}\nA" (no 3 1) ∷
    parse "/\u{4}\nA" (no 3 1) ∷
    parse "/\u{5}\nA" (no 3 1) ∷
    parse "/\u{6}\nA" (no 3 1) ∷
    parse "/\u{7}\nA" (no 3 1) ∷
    parse "/\u{8}\nA" (no 3 1) ∷
    parse "/\t\nA" (no 3 1) ∷
    parse "/\n\nA" (no 2 1) ∷
    parse "/\u{b}\nA" (no 3 1) ∷
    parse "/\u{c}\nA" (no 3 1) ∷
    parse "/\r\nA" (no 2 1) ∷
    parse "/\u{e}\nA" (no 3 1) ∷
    parse "/\u{f}\nA" (no 3 1) ∷
    parse "/\u{10}\nA" (no 3 1) ∷
    parse "/\u{11}\nA" (no 3 1) ∷
    parse "/\u{12}\nA" (no 3 1) ∷
    parse "/\u{13}\nA" (no 3 1) ∷
    parse "/\u{14}\nA" (no 3 1) ∷
    parse "/\u{15}\nA" (no 3 1) ∷
    parse "/\u{16}\nA" (no 3 1) ∷
    parse "/\u{17}\nA" (no 3 1) ∷
    parse "/\u{18}\nA" (no 3 1) ∷
    parse "/\u{19}\nA" (no 3 1) ∷
    parse "/\u{1a}\nA" (no 3 1) ∷
    parse "/\u{1b}\nA" (no 3 1) ∷
    parse "/\u{1c}\nA" (no 3 1) ∷
    parse "/\u{1d}\nA" (no 3 1) ∷
    parse "/\u{1e}\nA" (no 3 1) ∷
    parse "/\u{1f}\nA" (no 3 1) ∷
    parse "/ \nA" (ok Field50H (some " ") "" ("A" ∷ []) ":50H:/ \nA") ∷
    parse "/!\nA" (ok Field50H (some "!") "" ("A" ∷ []) ":50H:/!\nA") ∷
    parse "/\"\nA" (ok Field50H (some "\"") "" ("A" ∷ []) ":50H:/\"\nA") ∷
    parse "/#\nA" (ok Field50H (some "#") "" ("A" ∷ []) ":50H:/#\nA") ∷
    parse "/$\nA" (ok Field50H (some "$") "" ("A" ∷ []) ":50H:/$\nA") ∷
    parse "/%\nA" (ok Field50H (some "%") "" ("A" ∷ []) ":50H:/%\nA") ∷
    parse "/&\nA" (ok Field50H (some "&") "" ("A" ∷ []) ":50H:/&\nA") ∷
    parse "/'\nA" (ok Field50H (some "'") "" ("A" ∷ []) ":50H:/'\nA") ∷
    parse "/(\nA" (ok Field50H (some "(") "" ("A" ∷ []) ":50H:/(\nA") ∷
    parse "/)\nA" (ok Field50H (some ")") "" ("A" ∷ []) ":50H:/)\nA") ∷
    parse "/*\nA" (ok Field50H (some "*") "" ("A" ∷ []) ":50H:/*\nA") ∷
    parse "/+\nA" (ok Field50H (some "+") "" ("A" ∷ []) ":50H:/+\nA") ∷
    parse "/,\nA" (ok Field50H (some ",") "" ("A" ∷ []) ":50H:/,\nA") ∷
    parse "/-\nA" (ok Field50H (some "-") "" ("A" ∷ []) ":50H:/-\nA") ∷
    parse "/.\nA" (ok Field50H (some ".") "" ("A" ∷ []) ":50H:/.\nA") ∷
    parse "//\nA" (ok Field50H (some "/") "" ("A" ∷ []) ":50H://\nA") ∷
    parse "/0\nA" (ok Field50H (some "0") "" ("A" ∷ []) ":50H:/0\nA") ∷
    parse "/1\nA" (ok Field50H (some "1") "" ("A" ∷ []) ":50H:/1\nA") ∷
    parse "/2\nA" (ok Field50H (some "2") "" ("A" ∷ []) ":50H:/2\nA") ∷
    parse "/3\nA" (ok Field50H (some "3") "" ("A" ∷ []) ":50H:/3\nA") ∷
    parse "/4\nA" (ok Field50H (some "4") "" ("A" ∷ []) ":50H:/4\nA") ∷
    parse "/5\nA" (ok Field50H (some "5") "" ("A" ∷ []) ":50H:/5\nA") ∷
    parse "/6\nA" (ok Field50H (some "6") "" ("A" ∷ []) ":50H:/6\nA") ∷
    parse "/7\nA" (ok Field50H (some "7") "" ("A" ∷ []) ":50H:/7\nA") ∷
    parse "/8\nA" (ok Field50H (some "8") "" ("A" ∷ []) ":50H:/8\nA") ∷
    parse "/9\nA" (ok Field50H (some "9") "" ("A" ∷ []) ":50H:/9\nA") ∷
    parse "/:\nA" (ok Field50H (some ":") "" ("A" ∷ []) ":50H:/:\nA") ∷
    parse "/;\nA" (ok Field50H (some ";") "" ("A" ∷ []) ":50H:/;\nA") ∷
    parse "/<\nA" (ok Field50H (some "<") "" ("A" ∷ []) ":50H:/<\nA") ∷
    parse "/=\nA" (ok Field50H (some "=") "" ("A" ∷ []) ":50H:/=\nA") ∷
    parse "/>\nA" (ok Field50H (some ">") "" ("A" ∷ []) ":50H:/>\nA") ∷
    parse "/?\nA" (ok Field50H (some "?") "" ("A" ∷ []) ":50H:/?\nA") ∷
    parse "/@\nA" (ok Field50H (some "@") "" ("A" ∷ []) ":50H:/@\nA") ∷
    parse "/B\nA" (ok Field50H (some "B") "" ("A" ∷ []) ":50H:/B\nA") ∷
    parse "/C\nA" (ok Field50H (some "C") "" ("A" ∷ []) ":50H:/C\nA") ∷
    parse "/D\nA" (ok Field50H (some "D") "" ("A" ∷ []) ":50H:/D\nA") ∷
    parse "/E\nA" (ok Field50H (some "E") "" ("A" ∷ []) ":50H:/E\nA") ∷
    parse "/F\nA" (ok Field50H (some "F") "" ("A" ∷ []) ":50H:/F\nA") ∷
    parse "/G\nA" (ok Field50H (some "G") "" ("A" ∷ []) ":50H:/G\nA") ∷
    parse "/H\nA" (ok Field50H (some "H") "" ("A" ∷ []) ":50H:/H\nA") ∷
    parse "/I\nA" (ok Field50H (some "I") "" ("A" ∷ []) ":50H:/I\nA") ∷
    parse "/J\nA" (ok Field50H (some "J") "" ("A" ∷ []) ":50H:/J\nA") ∷
    parse "/K\nA" (ok Field50H (some "K") "" ("A" ∷ []) ":50H:/K\nA") ∷
    parse "/L\nA" (ok Field50H (some "L") "" ("A" ∷ []) ":50H:/L\nA") ∷
    parse "/M\nA" (ok Field50H (some "M") "" ("A" ∷ []) ":50H:/M\nA") ∷
    parse "/N\nA" (ok Field50H (some "N") "" ("A" ∷ []) ":50H:/N\nA") ∷
    parse "/O\nA" (ok Field50H (some "O") "" ("A" ∷ []) ":50H:/O\nA") ∷
    parse "/P\nA" (ok Field50H (some "P") "" ("A" ∷ []) ":50H:/P\nA") ∷
    parse "/Q\nA" (ok Field50H (some "Q") "" ("A" ∷ []) ":50H:/Q\nA") ∷
    parse "/R\nA" (ok Field50H (some "R") "" ("A" ∷ []) ":50H:/R\nA") ∷
    parse "/S\nA" (ok Field50H (some "S") "" ("A" ∷ []) ":50H:/S\nA") ∷
    parse "/T\nA" (ok Field50H (some "T") "" ("A" ∷ []) ":50H:/T\nA") ∷
    parse "/U\nA" (ok Field50H (some "U") "" ("A" ∷ []) ":50H:/U\nA") ∷
    parse "/V\nA" (ok Field50H (some "V") "" ("A" ∷ []) ":50H:/V\nA") ∷
    parse "/W\nA" (ok Field50H (some "W") "" ("A" ∷ []) ":50H:/W\nA") ∷
    parse "/X\nA" (ok Field50H (some "X") "" ("A" ∷ []) ":50H:/X\nA") ∷
    parse "/Y\nA" (ok Field50H (some "Y") "" ("A" ∷ []) ":50H:/Y\nA") ∷
    parse "/Z\nA" (ok Field50H (some "Z") "" ("A" ∷ []) ":50H:/Z\nA") ∷
    parse "/[\nA" (ok Field50H (some "[") "" ("A" ∷ []) ":50H:/[\nA") ∷
    parse "/\\\nA" (no 3 1) ∷
    parse "/]\nA" (ok Field50H (some "]") "" ("A" ∷ []) ":50H:/]\nA") ∷
    parse "/^\nA" (no 3 1) ∷
    parse "/_\nA" (ok Field50H (some "_") "" ("A" ∷ []) ":50H:/_\nA") ∷
    parse "/`\nA" (no 3 1) ∷
    parse "/a\nA" (ok Field50H (some "a") "" ("A" ∷ []) ":50H:/a\nA") ∷
    parse "/b\nA" (ok Field50H (some "b") "" ("A" ∷ []) ":50H:/b\nA") ∷
    parse "/c\nA" (ok Field50H (some "c") "" ("A" ∷ []) ":50H:/c\nA") ∷
    parse "/d\nA" (ok Field50H (some "d") "" ("A" ∷ []) ":50H:/d\nA") ∷
    parse "/e\nA" (ok Field50H (some "e") "" ("A" ∷ []) ":50H:/e\nA") ∷
    parse "/f\nA" (ok Field50H (some "f") "" ("A" ∷ []) ":50H:/f\nA") ∷
    parse "/g\nA" (ok Field50H (some "g") "" ("A" ∷ []) ":50H:/g\nA") ∷
    parse "/h\nA" (ok Field50H (some "h") "" ("A" ∷ []) ":50H:/h\nA") ∷
    parse "/i\nA" (ok Field50H (some "i") "" ("A" ∷ []) ":50H:/i\nA") ∷
    parse "/j\nA" (ok Field50H (some "j") "" ("A" ∷ []) ":50H:/j\nA") ∷
    parse "/k\nA" (ok Field50H (some "k") "" ("A" ∷ []) ":50H:/k\nA") ∷
    parse "/l\nA" (ok Field50H (some "l") "" ("A" ∷ []) ":50H:/l\nA") ∷
    parse "/m\nA" (ok Field50H (some "m") "" ("A" ∷ []) ":50H:/m\nA") ∷
    parse "/n\nA" (ok Field50H (some "n") "" ("A" ∷ []) ":50H:/n\nA") ∷
    parse "/o\nA" (ok Field50H (some "o") "" ("A" ∷ []) ":50H:/o\nA") ∷
    parse "/p\nA" (ok Field50H (some "p") "" ("A" ∷ []) ":50H:/p\nA") ∷
    parse "/q\nA" (ok Field50H (some "q") "" ("A" ∷ []) ":50H:/q\nA") ∷
    parse "/r\nA" (ok Field50H (some "r") "" ("A" ∷ []) ":50H:/r\nA") ∷
    parse "/s\nA" (ok Field50H (some "s") "" ("A" ∷ []) ":50H:/s\nA") ∷
    parse "/t\nA" (ok Field50H (some "t") "" ("A" ∷ []) ":50H:/t\nA") ∷
    parse "/u\nA" (ok Field50H (some "u") "" ("A" ∷ []) ":50H:/u\nA") ∷
    parse "/v\nA" (ok Field50H (some "v") "" ("A" ∷ []) ":50H:/v\nA") ∷
    parse "/w\nA" (ok Field50H (some "w") "" ("A" ∷ []) ":50H:/w\nA") ∷
    parse "/x\nA" (ok Field50H (some "x") "" ("A" ∷ []) ":50H:/x\nA") ∷
    parse "/y\nA" (ok Field50H (some "y") "" ("A" ∷ []) ":50H:/y\nA") ∷
    parse "/z\nA" (ok Field50H (some "z") "" ("A" ∷ []) ":50H:/z\nA") ∷
    parse "/{\nA" (ok Field50H (some "{") "" ("A" ∷ []) ":50H:/{\nA") ∷
    parse "/|\nA" (ok Field50H (some "|") "" ("A" ∷ []) ":50H:/|\nA") ∷
    parse "/}\nA" (ok Field50H (some "}") "" ("A" ∷ []) ":50H:/}\nA") ∷
    parse "/\u{7f}\nA" (no 3 1) ∷
    parse "\01\nA\nB" (no 2 1) ∷
    parse " 1\nA\nB" (no 2 1) ∷
    parse "@1\nA\nB" (no 2 1) ∷
    parse "[1\nA\nB" (no 2 1) ∷
    parse "z1\nA\nB" (no 2 1) ∷
    parse "~1\nA\nB" (no 2 1) ∷
    parse "/\t\nA\nB" (no 3 1) ∷
    parse "/!\nA\nB" (ok Field50H (some "!") "" ("A" ∷ "B" ∷ []) ":50H:/!\nA\nB") ∷
    parse "/0\nA\nB" (ok Field50H (some "0") "" ("A" ∷ "B" ∷ []) ":50H:/0\nA\nB") ∷
    parse "/Z\nA\nB" (ok Field50H (some "Z") "" ("A" ∷ "B" ∷ []) ":50H:/Z\nA\nB") ∷
    parse "/a\nA\nB" (ok Field50H (some "a") "" ("A" ∷ "B" ∷ []) ":50H:/a\nA\nB") ∷
    parse "/{\nA\nB" (ok Field50H (some "{") "" ("A" ∷ "B" ∷ []) ":50H:/{\nA\nB") ∷
    parse "/1\0A\nB" (no 3 1) ∷
    parse "/1 A\nB" (ok Field50H (some "1 A") "" ("B" ∷ []) ":50H:/1 A\nB") ∷
    parse "/1/A\nB" (ok Field50H (some "1/A") "" ("B" ∷ []) ":50H:/1/A\nB") ∷
    parse "/1@A\nB" (ok Field50H (some "1@A") "" ("B" ∷ []) ":50H:/1@A\nB") ∷
    parse "/1[A\nB" (ok Field50H (some "1[A") "" ("B" ∷ []) ":50H:/1[A\nB") ∷
    parse "/1zA\nB" (ok Field50H (some "1zA") "" ("B" ∷ []) ":50H:/1zA\nB") ∷
    parse "/1~A\nB" (no 3 1) ∷
    parse "/1\n\t\nB" (no 3 2) ∷
    parse "/1\n!\nB" (ok Field50H (some "1") "" ("!" ∷ "B" ∷ []) ":50H:/1\n!\nB") ∷
    parse "/1\n0\nB" (ok Field50H (some "1") "" ("0" ∷ "B" ∷ []) ":50H:/1\n0\nB") ∷
    parse "/1\nZ\nB" (ok Field50H (some "1") "" ("Z" ∷ "B" ∷ []) ":50H:/1\nZ\nB") ∷
    parse "/1\na\nB" (ok Field50H (some "1") "" ("a" ∷ "B" ∷ []) ":50H:/1\na\nB") ∷
    parse "/1\n{\nB" (ok Field50H (some "1") "" ("{" ∷ "B" ∷ []) ":50H:/1\n{\nB") ∷
    parse "/1\nA\0B" (no 3 2) ∷
    parse "/1\nA B" (ok Field50H (some "1") "" ("A B" ∷ []) ":50H:/1\nA B") ∷
    parse "/1\nA/B" (ok Field50H (some "1") "" ("A/B" ∷ []) ":50H:/1\nA/B") ∷
    parse "/1\nA@B" (ok Field50H (some "1") "" ("A@B" ∷ []) ":50H:/1\nA@B") ∷
    parse "/1\nA[B" (ok Field50H (some "1") "" ("A[B" ∷ []) ":50H:/1\nA[B") ∷
    parse "/1\nAzB" (ok Field50H (some "1") "" ("AzB" ∷ []) ":50H:/1\nAzB") ∷
    parse "/1\nA~B" (no 3 2) ∷
    parse "/1\nA\n\t" (no 3 3) ∷
    parse "/1\nA\n!" (ok Field50H (some "1") "" ("A" ∷ "!" ∷ []) ":50H:/1\nA\n!") ∷
    parse "/1\nA\n0" (ok Field50H (some "1") "" ("A" ∷ "0" ∷ []) ":50H:/1\nA\n0") ∷
    parse "/1\nA\nZ" (ok Field50H (some "1") "" ("A" ∷ "Z" ∷ []) ":50H:/1\nA\nZ") ∷
    parse "/1\nA\na" (ok Field50H (some "1") "" ("A" ∷ "a" ∷ []) ":50H:/1\nA\na") ∷
    parse "/1\nA\n{" (ok Field50H (some "1") "" ("A" ∷ "{" ∷ []) ":50H:/1\nA\n{") ∷
    parse "/A\n\n\n\n\n\n\n\n\n\n\n\n\n\n\n\n\n\n\n\n\n\n\n\n\n\n\n\n\n\n\n\n\n\n\n\n\n\n\n\n\n\n\n\n\n\n\n\n\n\n\n\n\n\n\n\n\n\n\n\n\n\n\n\n\n\n\n\n\n\n\n\n\n\n\n\n\n\n\n\n\n\n\n\n\n\n\n\n\n\n\n\n\n\n\n\n\n\n\n\n\n\n\n\n\n\n\n\n\n\n\n\n\n\n\n\n\n\n\n\n\n\n\n\n\n\n\n\n\n\n\n\n\n\n\n\n\n\n\n\n\n\n\n\n\n\n\n\n\n\n\n\n\n\n\n\n\n\n\n\n\n\n\n\n\n\n\n\n\n\n\n\n\n\n\n\n\n\n\n\n\n\n\n\n\n\n\n\n\n\n\n\n\n\n\n\n\n\n\n\n\n\n\n\n\n\n\n\n\n\n\n\n\n\n\n\n\n\n\n\n\n\n\n\n\n\n\n\n\n\n\n\n\n\n\n\n\n\n\n\n\n\n\n\n\n\n\n\n\n\n\n\n\n\n\n\n\n\n\n\n\n\n\n\n\n\n\n\n\n\n\n\n\n\n\n\n\n\n\n\n\n\n\n\n\n\n\n\n\n\n\n\n\n\n\n\n\n\n\n\n\n\n\n\n\n\n\n\n\n\n\n\n\n\n\n\n\n\n\n\n\n\n\n\n\n\n\n\n\n\n\n\n\n\n\n\n\n\n\n\n\n\n\n\n\n\n\n\n\n\n\n\n\n\n\n\n\n\n\n\n\n\n\n\n\n\n\n\n\n\n\n\n\n\n\n\n\n\n\n\n\n\n\n\n\n\n\n\n\n\n\n\n\n\n\n\n\n\n\n\n\n\n\n\n\n\n\n\n\n\n\n\n\n\n\n\n\n\n\n\n\n\n\n\n\n\n\n\n\n\n\n\n\n\n\n\n\n\n\n\n\n\n\n\n\n\n\n\n\n\n\n\n\n\n\n\n\n\n\n\n\n\n\n\n\n\n\n\n\n\n\n\n\n\n\n\n\n\n\n\n\n\n\n\n\n\n\n\n\n\n\n\n\n\n\n\n\n\n\n\n\n\n\n\n\n\n\n\n\n\n\n\n\n\n\n\n\n\n\n\n\n\n\n\n\n\n\n\n\n\n\n\n\n\n\n\n\n\n\n\n\n\n\n\n\n\n\n\n\n\n\n\n\n\n\n\n\n\n\n\n\n\n\n\n\n\n\n\n\n\n\n\n\n\n\n\n\n\n\n\n\n\n\n\n\n\n\n\n\n\n\n\n\n\n\n\n\n\n\n\n\n\n\n\n\n\n\n\n\n\n\n\n\n\n\n\n\n\n\n\n\n\n\n\n\n\n\n\n\n\n\n\n\n\n\n\n\n\n\n\n\n\n\n\n\n\n\n\n\n\n\n\n\n\n\n\n\n\n\n\n\n\n\n\n\n\n\n\n\n\n\n\n\n\n\n\n\n\n\n\n\n\n\n\n\n\n\n\n\n\n\n\n\n\n\n\n\n\n\n\n\n\n\n\n\n\n\n\n\n\n\n\n\n\n\n\n\n\n\n\n\n\n\n\n\n\n\n\n\n\n\n\n\n\n\n\n\n\n\n\n\n\n\n\n\n\n\n\n\n\n\n\n\n\n\n\n\n\n\n\n\n\n\n\n\n\n\n\n\n\n\n\n\n\n\n\n\n\n\n\n\n\n\n\n\n\n\n\n\n\n\n\n\n\n\n\n\n\n\n\n\n\n\n\n\n\n\n\n\n\n\n\n\n\n\n\n\n\n\n\n\n\n\n\n\n\n\n\n\n\n\n\n\n\n\n\n\n\n\n\n\n\n\n\n\n\n\n\n\n\n\n\n\n\n\n\n\n\n\n\n\n\n\n\n\n\n\n\n\n\n\n\n\n\n\n\n\n\n\n\n\n\n\n\n\n\n\n\n\n\n\n\n\n\n\n\n\n\n\n\n\n\n\n\n\n\n\n\n\n\n\n\n\n\n\n\n\n\n\n\n\n\n\n\n\n\n\n\n\n\n\n\n\n\n\n\n\n\n\n\n\n\n\n\n\n\n\n\n\n\n\n\n\n\n\n\n\n\n\n\n\n\n\n\n\n\n\n\n\n\n\n\n\n\n\n\n\n\n\n\n\n\n\n\n\n\n\n\n\n\n\n\n\n\n\n\n\n\n\n\n\n\n\n\n\n\n\n\n\n\n\n\n\n\n\n\n\n\n\n\n\n\n\n\n\n\n\n\n\n\n\n\n\n\n\n\n\n\n\n\n\n\n\n\n\n\n\n\n\n\n\n\n\n\n\n\n\n\n\n\n\n\n\n\n\n\n\n\n\n\n\n\n\n\n\n\n\n\n\n\n\n\n\n\n\n\n\n\n\n\n\n\n\n\n\n\n\n\n\n\n\n\n\n\n\n\n\n\n\n\n\n\n\n\n\n\n\n\n\n\n\n\n\n\n\n\n\n\n\n\n\n\n\n\n\n\n\n\n\n\n\n\n\n\n\n\n\n\n\n\n\n\n\n\n\n\n\n\n\n\n\n\n\n\n\n\n\n\n\n\n\n\n\n\n\n\n\n\n\n\n\n\n\n\n\n\n\n\n\n\n\n\n\n\n\n\n\n\n\n\n\n\n\n\n\n\n\n\n\n\n\n\n\n\n\n\n\n\n\n\n\n\n\n\n\n\n\n\n\n\n\n\n\n\n\n\n\n\n\n\n\n\n\n\n\n\n\n\n\n\n\n\n\n\n\n\n\n\n\n\n\n\n\n\n\n\n\n\n\n\n\n\n\n\n\n\n\n\n\n\n\n\n\n\n\n\n\n\n\n\n\n\n\n\n\n\n\n\n\n\n\n\n\n\n\n\n\n\n\n\n\n\n\n\n\n\n\n\n\n\n\n\n\n\n\n\n\n\n\n\n\n\n\n\n\n\n\n\n\n\n\n\n\n\n\n\n\n\n\n\n\n\n\n\n\n\n\n\n\n\n\n\n\n\n\n\n\n\n\n\n\n\n\n\n\n\n\n\n\n\n\n\n\n\n\n\n\n\n\n\n\n\n\n\n\n\n\n\n\n\n\n\n\n\n\n\n\n\n\n\n\n\n\n\n\n\n\n\n\n\n\n\n\n\n\n\n\n\n\n\n\n\n\n\n\n\n\n\n\n\n\n\n\n\n\n\n\n\n\n\n\n\n\n\n\n\n\n\n\n\n\n\n\n\n\n\n\n\n\n\n\n\n\n\n\n\n\n\n\n\n\n\n\n\n\n\n\n\n\n\n\n\n\n\n\n\n\n\n\n\n\n\n\n\n\n\n\n\n\n\n\n\n\n\n\n\n\n\n\n\n\n\n\n\n\n\n\n\n\n\n\n\n\n\n\n\n\n\n\n\n\n\n\n\n\n\n\n\n\n\n\n\n\n\n\n\n\n\n\n\n\n\n\n\n\n\n\n\n\n\n\n\n\n\n\n\n\n\n\n\n\n\n\n\n\n\n\n\n\n\n\n\n\n\n\n\n\n\n\n\n\n\n\n\n\n\n\n\n\n\n\n\n\n\n\n\n\n\n\n\n\n\n\n\n\n\n\n\n\n\n\n\n\n\n\n\n\n\n\n\n\n\n\n\n\n\n\n\n\n\n\n\n\n\n\n\n\n\n\n\n\n\n\n\n\n\n\n\n\n\n\n\n\n\n\n\n\n\n\n\n\n\n\n\n\n\n\n\n\n\n\n\n\n\n\n\n\n\n\n\n\n\n\n\n\n\n\n\n\n\n\n\n\n\n\n\n\n\n\n\n\n\n\n\n\n\n\n\n\n\n\n\n\n\n\n\n\n\n\n\n\n\n\n\n\n\n\n\n\n\n\n\n\n\n\n\n\n\n\n\n\n\n\n\n\n\n\n\n\n\n\n\n\n\n\n\n\n\n\n\n\n\n\n\n\n\n\n\n\n\n\n\n\n\n\n\n\n\n\n\n\n\n\n\n\n\n\n\n\n\n\n\n\n\n\n\n\n\n\n\n\n\n\n\n\n\n\n\n\n\n\n\n\n\n\n\n\n\n\n\n\n\n\n\n\n\n\n\n\n\n\n\n\n\n\n\n\n\n\n\n\n\n\n\n\n\n\n\n\n\n\n\n\n\n\n\n\n\n\n\n\n\n\n\n\n\n\n\n\n\n\n\n\n\n\n\n\n\n\n\n\n\n\n\n\n\n\n\n\n\n\n\n\n\n\n\n\n\n\n\n\n\n\n\n\n\n\n\n\n\n\n\n\n\n\n\n\n\n\n\n\n\n\n\n\n\n\n\n\n\n\n\n\n\n\n\n\n\n\n\n\n\n\n\n\n\n\n\n\n\n\n\n\n\n\n\n\n\n\n\n\n\n\n\n\n\n\n\n\n\n\n\n\n\n\n\n\n\n\n\n\n\n\n\n\n\n\n\n\n\n\n\n\n\n\n\n\n\n\n\n\n\n\n\n\n\n\n\n\n\n\n\n\n\n\n\n\n\n\n\n\n\n\n\n\n~" (no 3 2046) ∷
    parse "/A\n\n\n\n\n\n\n\n\n\n\n\n\n\n\n\n\n\n\n\n\n\n\n\n\n\n\n\n\n\n\n\n\n\n\n\n\n\n\n\n\n\n\n\n\n\n\n\n\n\n\n\n\n\n\n\n\n\n\n\n\n\n\n\n\n\n\n\n\n\n\n\n\n\n\n\n\n\n\n\n\n\n\n\n\n\n\n\n\n\n\n\n\n\n\n\n\n\n\n\n\n\n\n\n\n\n\n\n\n\n\n\n\n\n\n\n\n\n\n\n\n\n\n\n\n\n\n\n\n\n\n\n\n\n\n\n\n\n\n\n\n\n\n\n\n\n\n\n\n\n\n\n\n\n\n\n\n\n\n\n\n\n\n\n\n\n\n\n\n\n\n\n\n\n\n\n\n\n\n\n\n\n\n\n\n\n\n\n\n\n\n\n\n\n\n\n\n\n\n\n\n\n\n\n\n\n\n\n\n\n\n\n\n\n\n\n\n\n\n\n\n\n\n\n\n\n\n\n\n\n\n\n\n\n\n\n\n\n\n\n\n\n\n\n\n\n\n\n\n\n\n\n\n\n\n\n\n\n\n\n\n\n\n\n\n\n\n\n\n\n\n\n\n\n\n\n\n\n\n\n\n\n\n\n\n\n\n\n\n\n\n\n\n\n\n\n\n\n\n\n\n\n\n\n\n\n\n\n\n\n\n\n\n\n\n\n\n\n\n\n\n\n\n\n\n\n\n\n\n\n\n\n\n\n\n\n\n\n\n\n\n\n\n\n\n\n\n\n\n\n\n\n\n\n\n\n\n\n\n\n\n\n\n\n\n\n\n\n\n\n\n\n\n\n\n\n\n\n\n\n\n\n\n\n\n\n\n\n\n\n\n\n\n\n\n\n\n\n\n\n\n\n\n\n\n\n\n\n\n\n\n\n\n\n\n\n\n\n\n\n\n\n\n\n\n\n\n\n\n\n\n\n\n\n\n\n\n\n\n\n\n\n\n\n\n\n\n\n\n\n\n\n\n\n\n\n\n\n\n\n\n\n\n\n\n\n\n\n\n\n\n\n\n\n\n\n\n\n\n\n\n\n\n\n\n\n\n\n\n\n\n\n\n\n\n\n\n\n\n\n\n\n\n\n\n\n\n\n\n\n\n\n\n\n\n\n\n\n\n\n\n\n\n\n\n\n\n\n\n\n\n\n\n\n\n\n\n\n\n\n\n\n\n\n\n\n\n\n\n\n\n\n\n\n\n\n\n\n\n\n\n\n\n\n\n\n\n\n\n\n\n\n\n\n\n\n\n\n\n\n\n\n\n\n\n\n\n\n\n\n\n\n\n\n\n\n\n\n\n\n\n\n\n\n\n\n\n\n\n\n\n\n\n\n\n\n\n\n\n\n\n\n\n\n\n\n\n\n\n\n\n\n\n\n\n\n\n\n\n\n\n\n\n\n\n\n\n\n\n\n\n\n\n\n\n\n\n\n\n\n\n\n\n\n\n\n\n\n\n\n\n\n\n\n\n\n\n\n\n\n\n\n\n\n\n\n\n\n\n\n\n\n\n\n\n\n\n\n\n\n\n\n\n\n\n\n\n\n\n\n\n\n\n\n\n\n\n\n\n\n\n\n\n\n\n\n\n\n\n\n\n\n\n\n\n\n\n\n\n\n\n\n\n\n\n\n\n\n\n\n\n\n\n\n\n\n\n\n\n\n\n\n\n\n\n\n\n\n\n\n\n\n\n\n\n\n\n\n\n\n\n\n\n\n\n\n\n\n\n\n\n\n\n\n\n\n\n\n\n\n\n\n\n\n\n\n\n\n\n\n\n\n\n\n\n\n\n\n\n\n\n\n\n\n\n\n\n\n\n\n\n\n\n\n\n\n\n\n\n\n\n\n\n\n\n\n\n\n\n\n\n\n\n\n\n\n\n\n\n\n\n\n\n\n\n\n\n\n\n\n\n\n\n\n\n\n\n\n\n\n\n\n\n\n\n\n\n\n\n\n\n\n\n\n\n\n\n\n\n\n\n\n\n\n\n\n\n\n\n\n\n\n\n\n\n\n\n\n\n\n\n\n\n\n\n\n\n\n\n\n\n\n\n\n\n\n\n\n\n\n\n\n\n\n\n\n\n\n\n\n\n\n\n\n\n\n\n\n\n\n\n\n\n\n\n\n\n\n\n\n\n\n\n\n\n\n\n\n\n\n\n\n\n\n\n\n\n\n\n\n\n\n\n\n\n\n\n\n\n\n\n\n\n\n\n\n\n\n\n\n\n\n\n\n\n\n\n\n\n\n\n\n\n\n\n\n\n\n\n\n\n\n\n\n\n\n\n\n\n\n\n\n\n\n\n\n\n\n\n\n\n\n\n\n\n\n\n\n\n\n\n\n\n\n\n\n\n\n\n\n\n\n\n\n\n\n\n\n\n\n\n\n\n\n\n\n\n\n\n\n\n\n\n\n\n\n\n\n\n\n\n\n\n\n\n\n\n\n\n\n\n\n\n\n\n\n\n\n\n\n\n\n\n\n\n\n\n\n\n\n\n\n\n\n\n\n\n\n\n\n\n\n\n\n\n\n\n\n\n\n\n\n\n\n\n\n\n\n\n\n\n\n\n\n\n\n\n\n\n\n\n\n\n\n\n\n\n\n\n\n\n\n\n\n\n\n\n\n\n\n\n\n\n\n\n\n\n\n\n\n\n\n\n\n\n\n\n\n\n\n\n\n\n\n\n\n\n\n\n\n\n\n\n\n\n\n\n\n\n\n\n\n\n\n\n\n\n\n\n\n\n\n\n\n\n\n\n\n\n\n\n\n\n\n\n\n\n\n\n\n\n\n\n\n\n\n\n\n\n\n\n\n\n\n\n\n\n\n\n\n\n\n\n\n\n\n\n\n\n\n\n\n\n\n\n\n\n\n\n\n\n\n\n\n\n\n\n\n\n\n\n\n\n\n\n\n\n\n\n\n\n\n\n\n\n\n\n\n\n\n\n\n\n\n\n\n\n\n\n\n\n\n\n\n\n\n\n\n\n\n\n\n\n\n\n\n\n\n\n\n\n\n\n\n\n\n\n\n\n\n\n\n\n\n\n\n\n\n\n\n\n\n\n\n\n\n\n\n\n\n\n\n\n\n\n\n\n\n\n\n\n\n\n\n\n\n\n\n\n\n\n\n\n\n\n\n\n\n\n\n\n\n\n\n\n\n\n\n\n\n\n\n\n\n\n\n\n\n\n\n\n\n\n\n\n\n\n\n\n\n\n\n\n\n\n\n\n\n\n\n\n\n\n\n\n\n\n\n\n\n\n\n\n\n\n\n\n\n\n\n\n\n\n\n\n\n\n\n\n\n\n\n\n\n\n\n\n\n\n\n\n\n\n\n\n\n\n\n\n\n\n\n\n\n\n\n\n\n\n\n\n\n\n\n\n\n\n\n\n\n\n\n\n\n\n\n\n\n\n\n\n\n\n\n\n\n\n\n\n\n\n\n\n\n\n\n\n\n\n\n\n\n\n\n\n\n\n\n\n\n\n\n\n\n\n\n\n\n\n\n\n\n\n\n\n\n\n\n\n\n\n\n\n\n\n\n\n\n\n\n\n\n\n\n\n\n\n\n\n\n\n\n\n\n\n\n\n\n\n\n\n\n\n\n\n\n\n\n\n\n\n\n\n\n\n\n\n\n\n\n\n\n\n\n\n\n\n\n\n\n\n\n\n\n\n\n\n\n\n\n\n\n\n\n\n\n\n\n\n\n\n\n\n\n\n\n\n\n\n\n\n\n\n\n\n\n\n\n\n\n\n\n\n\n\n\n\n\n\n\n\n\n\n\n\n\n\n\n\n\n\n\n\n\n\n\n\n\n\n\n\n\n\n\n\n\n\n\n\n\n\n\n\n\n\n\n\n\n\n\n\n\n\n\n\n\n\n\n\n\n\n\n\n\n\n\n\n\n\n\n\n\n\n\n\n\n\n\n\n\n\n\n\n\n\n\n\n\n\n\n\n\n\n\n\n\n\n\n\n\n\n\n\n\n\n\n\n\n\n\n\n\n\n\n\n\n\n\n\n\n\n\n\n\n\n\n\n\n\n\n\n\n\n\n\n\n\n\n\n\n\n\n\n\n\n\n\n\n\n\n\n\n\n\n\n\n\n\n\n\n\n\n\n\n\n\n\n\n\n\n\n\n\n\n\n\n\n\n\n\n\n\n\n\n\n\n\n\n\n\n\n\n\n\n\n\n\n\n\n\n\n\n\n\n\n\n\n\n\n\n\n\n\n\n\n\n\n\n\n\n\n\n\n\n\n\n\n\n\n\n\n\n\n\n\n\n\n\n\n\n\n\n\n\n\n\n\n\n\n\n\n\n\n\n\n\n\n\n\n\n\n\n\n\n\n\n\n\n\n\n\n\n\n\n\n\n\n\n\n\n\n\n\n\n\n\n\n\n\n\n\n\n\n\n\n\n\n\n\n\n\n\n\n\n\n\n\n\n\n\n\n\n\n\n\n\n\n\n\n\nABCDEFGHIJKLMNOPQRSTUVWXYZ0123456789" (no 4 2011) ∷
    parse "/Xx/\r\n<+0Aa\"\r\n" (ok Field50H (some "Xx/") "" ("<+0Aa\"" ∷ []) ":50H:/Xx/\n<+0Aa\"") ∷
    parse "/>XA|/\"y_:\r\n/;y" (ok Field50H (some ">XA|/\"y_:") "" ("/;y" ∷ []) ":50H:/>XA|/\"y_:\n/;y") ∷
    parse "/XB0_/)_\r\nABCDEFGHIJKLMNO\nQRSTUVWXYZ0~2345678" (no 3 3) ∷
    parse "/X',\nB\nAy>cbb\n/y'9\nY_>:\n" (ok Field50H (some "X',") "" ("B" ∷ "Ay>cbb" ∷ "/y'9" ∷ "Y_>:" ∷ []) ":50H:/X',\nB\nAy>cbb\n/y'9\nY_>:") ∷
    parse "/X+\r\n#0\r\n;yX$\r\n$:9'\r\nB*{_%8" (ok Field50H (some "X+") "" ("#0" ∷ ";yX$" ∷ "$:9'" ∷ "B*{_%8" ∷ []) ":50H:/X+\n#0\n;yX$\n$:9'\nB*{_%8") ∷
    parse "/ABCDEFGHIJKLMNOzQRSTUVWXYZ0123456789" (no 1 0) ∷
    parse "/A\nABCDEFGHIJKLMNOPQRSTUVW^XYZ01234567\nB" (no 3 2) ∷
    parse "ABCDEFGHIJK\r1/ABCDEFGHIJKLMNOPQRSTUVWXYZ012345\rABCDEF123AZ" (no 1 0) ∷
    parse "/12345678\nJOKYN DOE\n123 MAIN STREET" (ok Field50H (some "12345678") "" ("JOKYN DOE" ∷ "123 MAIN STREET" ∷ []) ":50H:/12345678\nJOKYN DOE\n123 MAIN STREET") ∷
    parse "/1234567-\nJOHN DOE\n123 MAIN STREET" (ok Field50H (some "1234567-") "" ("JOHN DOE" ∷ "123 MAIN STREET" ∷ []) ":50H:/1234567-\nJOHN DOE\n123 MAIN STREET") ∷
    parse "/XC?1_\nX#" (ok Field50H (some "XC?1_") "" ("X#" ∷ []) ":50H:/XC?1_\nX#") ∷
    parse "/,9:Z9>/%x#" (no 1 0) ∷
    parse "6/y%\r\n/c88B\r\nzC=\"\n7/A\n//ABCDEFGHIJKLMNOPQRSTUVWXYZ012345678\n/ABCDEFGHIJKLMNOPQRSTUVWXYZ01234567\r\n" (no 2 1) ∷
    parse "/X-+\r\n@/'\r\nABCD\rFGHIJKLMNOPQRSTUVWXYZ0123457" (ok Field50H (some "X-+") "" ("@/'" ∷ "ABCD\rFGHIJKLMNOPQRSTUVWXYZ0123457" ∷ []) ":50H:/X-+\n@/'\nABCD\rFGHIJKLMNOPQRSTUVWXYZ0123457") ∷
    parse "/X{<',>a\nABCDEFGHIJKLMNOPQRSTUVWXYZ012345678\ny1%B?\nABCDEF\u{7f}HIJKLMNOPQRSTUVWXYZ012345678\n$]#@\n" (no 3 4) ∷
    parse "&&Y \n/y'][}/}!\n ABCDEF123AZ\r\n" (no 2 1) ∷
    parse "/Xb:\r\n8[X&\r\nz\r\n/|\r\n" (ok Field50H (some "Xb:") "" ("8[X&" ∷ "z" ∷ "/|" ∷ []) ":50H:/Xb:\n8[X&\nz\n/|") ∷
    parse "/XABCDEFGHIJKLMNOPQRSTUVWXYZ012345\r\nb\r\nABCDEFGHIJKLMNOPQRSTUVWXYZ01234567\r\n=\r\n" (ok Field50H (some "XABCDEFGHIJKLMNOPQRSTUVWXYZ012345") "" ("b" ∷ "ABCDEFGHIJKLMNOPQRSTUVWXYZ01234567" ∷ "=" ∷ []) ":50H:/XABCDEFGHIJKLMNOPQRSTUVWXYZ012345\nb\nABCDEFGHIJKLMNOPQRSTUVWXYZ01234567\n=") ∷
    parse "/A\nA\nA\nA\nABCDEFGHIJKLMNOPQRSUVWXYZ012345678" (ok Field50H (some "A") "" ("A" ∷ "A" ∷ "A" ∷ "ABCDEFGHIJKLMNOPQRSUVWXYZ012345678" ∷ []) ":50H:/A\nA\nA\nA\nABCDEFGHIJKLMNOPQRSUVWXYZ012345678") ∷
    parse " deutdeff\r\n deutdeff " (no 2 1) ∷
    parse "/A\nABCDEF9GHIJKLMNOPQRSTU]VWXYZ0123456789\nB" (no 4 2) ∷
    parse "0/ABCDEFGHIJKLMNOPQRSTUVWXYZ012345\rdeutdeff\nABCDEFGHIJKL\r\n" (no 2 1) ∷
    parse "/ABCDEFGHIJK0LMNOPQRSTUVWXYZ0123456789\nA" (no 2 1) ∷
    []

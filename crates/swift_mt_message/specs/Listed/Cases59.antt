-- Made of crates/replay/stdin by tests/rust/listed: the cases of 59.
use Rattle.std.specs.Prelude.{List, [], ◌∷◌}
use Rattle.std.proofs.Math.Option.{none, some}
use Rattle.party.specs.declared.PartyOption.TheVariants.{Field59NoOption}
use Rattle.swift_mt_message.specs.Cases.{Case, parse, ok, no}

abbrev pub cases : List Case
cases =
    parse "/ABCDEFGHIJKLMNOPQRSTUVWXYZ01234567\nA" (ok Field59NoOption (some "ABCDEFGHIJKLMNOPQRSTUVWXYZ01234567") "" ("A" ∷ []) ":59:/ABCDEFGHIJKLMNOPQRSTUVWXYZ01234567\nA") ∷
    parse "/ABCDEFGHIJKLMNOPQRSTUVWXYZ01234567" (no 7 0) ∷
    parse "/ABCDEFGHIJKLMNOPQRSTUVWXYZ012345678" (no 4 1) ∷
    parse "" (no 1 0) ∷
    parse "~\n~" (no 3 1) ∷
    parse "~" (no 3 1) ∷
    parse "A\0\n~" (no 3 1) ∷
    parse "A\0" (no 3 1) ∷
    parse "A\n~\n~" (no 3 2) ∷
    parse "A\n~" (no 3 2) ∷
    parse "A\nA\0\n~" (no 3 2) ∷
    parse "A\nA\0" (no 3 2) ∷
    parse "A\nA\n~\n~" (no 3 3) ∷
    parse "A\nA\n~" (no 3 3) ∷
    parse "A\nA\nA\0\n~" (no 3 3) ∷
    parse "A\nA\nA\0" (no 3 3) ∷
    parse "A\nA\nA\n~\n~" (no 3 4) ∷
    parse "A\nA\nA\n~" (no 3 4) ∷
    parse "A\nA\nA\nA\0\n~" (no 3 4) ∷
    parse "A\nA\nA\nA\0" (no 3 4) ∷
    parse "A\nA\nA\nA\n~\n~" (no 3 5) ∷
    parse "A\nA\nA\nA\n~" (no 3 5) ∷
    parse "A\nA\nA\nA\nA\0\n~" (no 3 5) ∷
    parse "A\nA\nA\nA\nA\0" (no 3 5) ∷
    parse "A\nA\nA\nA\nA\n~\n~" (no 3 6) ∷
    parse "A\nA\nA\nA\nA\n~" (no 3 6) ∷
    parse "A\nA\nA\nA\nA\nA\0\n~" (no 3 6) ∷
    parse "A\nA\nA\nA\nA\nA\0" (no 3 6) ∷
    parse "A\nA\nA\nA\nA\nA\n~\n~" (no 3 7) ∷
    parse "A\nA\nA\nA\nA\nA\n~" (no 3 7) ∷
    parse "A\nA\nA\nA\nA\nA\nA\0\n~" (no 3 7) ∷
    parse "A\nA\nA\nA\nA\nA\nA\0" (no 3 7) ∷
    parse "A\nA\nA\nA\nA\nA\nA\n~\n~" (no 3 8) ∷
    parse "A\nA\nA\nA\nA\nA\nA\n~" (no 3 8) ∷
    parse "A\nA\nA\nA\nA\nA\nA\nA\0\n~" (no 3 8) ∷
    parse "A\nA\nA\nA\nA\nA\nA\nA\0" (no 3 8) ∷
    parse "A\nA\nA\nA\nA\nA\nA\nA\n~\n~" (no 3 9) ∷
    parse "A\nA\nA\nA\nA\nA\nA\nA\n~" (no 3 9) ∷
    parse "A\nA\nA\nA\nA\nA\nA\nA\nA\0\n~" (no 3 9) ∷
    parse "A\nA\nA\nA\nA\nA\nA\nA\nA\0" (no 3 9) ∷
    parse "A\nA\nA\nA\nA\nA\nA\nA\nA\n~\n~" (no 3 10) ∷
    parse "A\nA\nA\nA\nA\nA\nA\nA\nA\n~" (no 3 10) ∷
    parse "A\nA\nA\nA\nA\nA\nA\nA\nA\nA\0\n~" (no 3 10) ∷
    parse "A\nA\nA\nA\nA\nA\nA\nA\nA\nA\0" (no 3 10) ∷
    parse "A\nA\nA\nA\nA\nA\nA\nA\nA\nA\n~\n~" (no 3 11) ∷
    parse "A\nA\nA\nA\nA\nA\nA\nA\nA\nA\n~" (no 3 11) ∷
    parse "A\nA\nA\nA\nA\nA\nA\nA\nA\nA\nA\0\n~" (no 3 11) ∷
    parse "A\nA\nA\nA\nA\nA\nA\nA\nA\nA\nA\0" (no 3 11) ∷
    parse "A\nA\nA\nA\nA\nA\nA\nA\nA\nA\nA\nA\nA\nA\nA\nA\nA\nA\nA\nA\nA\nA\nA\nA\nA\nA\nA\nA\nA\nA\nA\nA\nA\nA\nA\nA\nA\nA\nA\n~\n~" (no 3 40) ∷
    parse "A\nA\nA\nA\nA\nA\nA\nA\nA\nA\nA\nA\nA\nA\nA\nA\nA\nA\nA\nA\nA\nA\nA\nA\nA\nA\nA\nA\nA\nA\nA\nA\nA\nA\nA\nA\nA\nA\nA\n~" (no 3 40) ∷
    parse "A\nA\nA\nA\nA\nA\nA\nA\nA\nA\nA\nA\nA\nA\nA\nA\nA\nA\nA\nA\nA\nA\nA\nA\nA\nA\nA\nA\nA\nA\nA\nA\nA\nA\nA\nA\nA\nA\nA\nA\0\n~" (no 3 40) ∷
    parse "A\nA\nA\nA\nA\nA\nA\nA\nA\nA\nA\nA\nA\nA\nA\nA\nA\nA\nA\nA\nA\nA\nA\nA\nA\nA\nA\nA\nA\nA\nA\nA\nA\nA\nA\nA\nA\nA\nA\nA\0" (no 3 40) ∷
    parse "ABCDEFGHIJKLMNOPQRSTUVWXYZ0123456789\n~" (no 4 1) ∷
    parse "ABCDEFGHIJKLMNOPQRSTUVWXYZ0123456789" (no 4 1) ∷
    parse "/ABCDEFGHIJKLMNOPQRSTUVWXYZ012345678\nA\n~" (no 4 1) ∷
    parse "/ABCDEFGHIJKLMNOPQRSTUVWXYZ012345678\nA" (no 4 1) ∷
    parse "A\nABCDEFGHIJKLMNOPQRSTUVWXYZ0123456789\n~" (no 4 2) ∷
    parse "A\nABCDEFGHIJKLMNOPQRSTUVWXYZ0123456789" (no 4 2) ∷
    parse "/A\nABCDEFGHIJKLMNOPQRSTUVWXYZ0123456789\n~" (no 4 2) ∷
    parse "/A\nABCDEFGHIJKLMNOPQRSTUVWXYZ0123456789" (no 4 2) ∷
    parse "A\nA\nABCDEFGHIJKLMNOPQRSTUVWXYZ0123456789\n~" (no 4 3) ∷
    parse "A\nA\nABCDEFGHIJKLMNOPQRSTUVWXYZ0123456789" (no 4 3) ∷
    parse "/A\nA\nABCDEFGHIJKLMNOPQRSTUVWXYZ0123456789\n~" (no 4 3) ∷
    parse "/A\nA\nABCDEFGHIJKLMNOPQRSTUVWXYZ0123456789" (no 4 3) ∷
    parse "A\nA\nA\nABCDEFGHIJKLMNOPQRSTUVWXYZ0123456789\n~" (no 4 4) ∷
    parse "A\nA\nA\nABCDEFGHIJKLMNOPQRSTUVWXYZ0123456789" (no 4 4) ∷
    parse "/A\nA\nA\nABCDEFGHIJKLMNOPQRSTUVWXYZ0123456789\n~" (no 4 4) ∷
    parse "/A\nA\nA\nABCDEFGHIJKLMNOPQRSTUVWXYZ0123456789" (no 4 4) ∷
    parse "A\nA\nA\nA\nABCDEFGHIJKLMNOPQRSTUVWXYZ0123456789\n~" (no 4 5) ∷
    parse "A\nA\nA\nA\nABCDEFGHIJKLMNOPQRSTUVWXYZ0123456789" (no 4 5) ∷
    parse "/A\nA\nA\nA\nABCDEFGHIJKLMNOPQRSTUVWXYZ0123456789\n~" (no 4 5) ∷
    parse "/A\nA\nA\nA\nABCDEFGHIJKLMNOPQRSTUVWXYZ0123456789" (no 4 5) ∷
    parse "A\nA\nA\nA\nA\nABCDEFGHIJKLMNOPQRSTUVWXYZ0123456789\n~" (no 4 6) ∷
    parse "A\nA\nA\nA\nA\nABCDEFGHIJKLMNOPQRSTUVWXYZ0123456789" (no 4 6) ∷
    parse "/A\nA\nA\nA\nA\nABCDEFGHIJKLMNOPQRSTUVWXYZ0123456789\n~" (no 4 6) ∷
    parse "/A\nA\nA\nA\nA\nABCDEFGHIJKLMNOPQRSTUVWXYZ0123456789" (no 4 6) ∷
    parse "A\nA\nA\nA\nA\nA\nABCDEFGHIJKLMNOPQRSTUVWXYZ0123456789\n~" (no 4 7) ∷
    parse "A\nA\nA\nA\nA\nA\nABCDEFGHIJKLMNOPQRSTUVWXYZ0123456789" (no 4 7) ∷
    parse "/A\nA\nA\nA\nA\nA\nABCDEFGHIJKLMNOPQRSTUVWXYZ0123456789\n~" (no 4 7) ∷
    parse "/A\nA\nA\nA\nA\nA\nABCDEFGHIJKLMNOPQRSTUVWXYZ0123456789" (no 4 7) ∷
    parse "A\nA\nA\nA\nA\nA\nA\nABCDEFGHIJKLMNOPQRSTUVWXYZ0123456789\n~" (no 4 8) ∷
    parse "A\nA\nA\nA\nA\nA\nA\nABCDEFGHIJKLMNOPQRSTUVWXYZ0123456789" (no 4 8) ∷
    parse "/A\nA\nA\nA\nA\nA\nA\nABCDEFGHIJKLMNOPQRSTUVWXYZ0123456789\n~" (no 4 8) ∷
    parse "/A\nA\nA\nA\nA\nA\nA\nABCDEFGHIJKLMNOPQRSTUVWXYZ0123456789" (no 4 8) ∷
    parse "A\nA\nA\nA\nA\nA\nA\nA\nABCDEFGHIJKLMNOPQRSTUVWXYZ0123456789\n~" (no 4 9) ∷
    parse "A\nA\nA\nA\nA\nA\nA\nA\nABCDEFGHIJKLMNOPQRSTUVWXYZ0123456789" (no 4 9) ∷
    parse "/A\nA\nA\nA\nA\nA\nA\nA\nABCDEFGHIJKLMNOPQRSTUVWXYZ0123456789\n~" (no 4 9) ∷
    parse "/A\nA\nA\nA\nA\nA\nA\nA\nABCDEFGHIJKLMNOPQRSTUVWXYZ0123456789" (no 4 9) ∷
    parse "A\nA\nA\nA\nA\nA\nA\nA\nA\nABCDEFGHIJKLMNOPQRSTUVWXYZ0123456789\n~" (no 4 10) ∷
    parse "A\nA\nA\nA\nA\nA\nA\nA\nA\nABCDEFGHIJKLMNOPQRSTUVWXYZ0123456789" (no 4 10) ∷
    parse "/A\nA\nA\nA\nA\nA\nA\nA\nA\nABCDEFGHIJKLMNOPQRSTUVWXYZ0123456789\n~" (no 4 10) ∷
    parse "/A\nA\nA\nA\nA\nA\nA\nA\nA\nABCDEFGHIJKLMNOPQRSTUVWXYZ0123456789" (no 4 10) ∷
    parse "A\nA\nA\nA\nA\nA\nA\nA\nA\nA\nABCDEFGHIJKLMNOPQRSTUVWXYZ0123456789\n~" (no 4 11) ∷
    parse "A\nA\nA\nA\nA\nA\nA\nA\nA\nA\nABCDEFGHIJKLMNOPQRSTUVWXYZ0123456789" (no 4 11) ∷
    parse "/A\nA\nA\nA\nA\nA\nA\nA\nA\nA\nABCDEFGHIJKLMNOPQRSTUVWXYZ0123456789\n~" (no 4 11) ∷
    parse "/A\nA\nA\nA\nA\nA\nA\nA\nA\nA\nABCDEFGHIJKLMNOPQRSTUVWXYZ0123456789" (no 4 11) ∷
    parse "A\nA\nA\nA\nA\nA\nA\nA\nA\nA\nA\nA\nA\nA\nA\nA\nA\nA\nA\nA\nA\nA\nA\nA\nA\nA\nA\nA\nA\nA\nA\nA\nA\nA\nA\nA\nA\nA\nA\nABCDEFGHIJKLMNOPQRSTUVWXYZ0123456789\n~" (no 4 40) ∷
    parse "A\nA\nA\nA\nA\nA\nA\nA\nA\nA\nA\nA\nA\nA\nA\nA\nA\nA\nA\nA\nA\nA\nA\nA\nA\nA\nA\nA\nA\nA\nA\nA\nA\nA\nA\nA\nA\nA\nA\nABCDEFGHIJKLMNOPQRSTUVWXYZ0123456789" (no 4 40) ∷
    parse "/A\nA\nA\nA\nA\nA\nA\nA\nA\nA\nA\nA\nA\nA\nA\nA\nA\nA\nA\nA\nA\nA\nA\nA\nA\nA\nA\nA\nA\nA\nA\nA\nA\nA\nA\nA\nA\nA\nA\nABCDEFGHIJKLMNOPQRSTUVWXYZ0123456789\n~" (no 4 40) ∷
    parse "/A\nA\nA\nA\nA\nA\nA\nA\nA\nA\nA\nA\nA\nA\nA\nA\nA\nA\nA\nA\nA\nA\nA\nA\nA\nA\nA\nA\nA\nA\nA\nA\nA\nA\nA\nA\nA\nA\nA\nABCDEFGHIJKLMNOPQRSTUVWXYZ0123456789" (no 4 40) ∷
    parse "/A" (no 7 0) ∷
    parse "/\n" (no 7 0) ∷
    parse "A\nA\nA\nA\nA" (no 7 0) ∷
    parse "/A\nA\nA\nA\nA\nA" (no 7 0) ∷
    parse "/\nA" (ok Field59NoOption (some "") "" ("A" ∷ []) ":59:/\nA") ∷
    parse "/A\nA" (ok Field59NoOption (some "A") "" ("A" ∷ []) ":59:/A\nA") ∷
    parse "/ABCDEFGHIJKLMNOPQRSTUVWXYZ0123456\nA" (ok Field59NoOption (some "ABCDEFGHIJKLMNOPQRSTUVWXYZ0123456") "" ("A" ∷ []) ":59:/ABCDEFGHIJKLMNOPQRSTUVWXYZ0123456\nA") ∷
    parse "/ABCDEFGHIJKLMNOPQRSTUVWXYZ0123456789\nA" (no 4 1) ∷
    parse "/" (no 7 0) ∷
    parse "/ABCDEFGHIJKLMNOPQRSTUVWXYZ0123456" (no 7 0) ∷
    parse "/ABCDEFGHIJKLMNOPQRSTUVWXYZ0123456789" (no 4 1) ∷
    parse "/A\n" (no 7 0) ∷
    parse "/A\nA\nA" (ok Field59NoOption (some "A") "" ("A" ∷ "A" ∷ []) ":59:/A\nA\nA") ∷
    parse "/A\nA\nA\nA" (ok Field59NoOption (some "A") "" ("A" ∷ "A" ∷ "A" ∷ []) ":59:/A\nA\nA\nA") ∷
    parse "/A\nA\nA\nA\nA" (ok Field59NoOption (some "A") "" ("A" ∷ "A" ∷ "A" ∷ "A" ∷ []) ":59:/A\nA\nA\nA\nA") ∷
    parse "/A\nA\nA\nA\nA\nA\nA" (no 7 0) ∷
    parse "/A\nABCDEFGHIJKLMNOPQRSTUVWXYZ01234567" (ok Field59NoOption (some "A") "" ("ABCDEFGHIJKLMNOPQRSTUVWXYZ01234567" ∷ []) ":59:/A\nABCDEFGHIJKLMNOPQRSTUVWXYZ01234567") ∷
    parse "/A\nABCDEFGHIJKLMNOPQRSTUVWXYZ012345678" (ok Field59NoOption (some "A") "" ("ABCDEFGHIJKLMNOPQRSTUVWXYZ012345678" ∷ []) ":59:/A\nABCDEFGHIJKLMNOPQRSTUVWXYZ012345678") ∷
    parse "/A\nA\nA\nA\n" (ok Field59NoOption (some "A") "" ("A" ∷ "A" ∷ "A" ∷ []) ":59:/A\nA\nA\nA") ∷
    parse "/A\nA\nA\nA\nABCDEFGHIJKLMNOPQRSTUVWXYZ01234567" (ok Field59NoOption (some "A") "" ("A" ∷ "A" ∷ "A" ∷ "ABCDEFGHIJKLMNOPQRSTUVWXYZ01234567" ∷ []) ":59:/A\nA\nA\nA\nABCDEFGHIJKLMNOPQRSTUVWXYZ01234567") ∷
    parse "/A\nA\nA\nA\nABCDEFGHIJKLMNOPQRSTUVWXYZ012345678" (ok Field59NoOption (some "A") "" ("A" ∷ "A" ∷ "A" ∷ "ABCDEFGHIJKLMNOPQRSTUVWXYZ012345678" ∷ []) ":59:/A\nA\nA\nA\nABCDEFGHIJKLMNOPQRSTUVWXYZ012345678") ∷
    parse "/A\n\nB" (ok Field59NoOption (some "A") "" ("" ∷ "B" ∷ []) ":59:/A\n\nB") ∷
    parse "/A\nA\nB" (ok Field59NoOption (some "A") "" ("A" ∷ "B" ∷ []) ":59:/A\nA\nB") ∷
    parse "/A\nABCDEFGHIJKLMNOPQRSTUVWXYZ01234567\nB" (ok Field59NoOption (some "A") "" ("ABCDEFGHIJKLMNOPQRSTUVWXYZ01234567" ∷ "B" ∷ []) ":59:/A\nABCDEFGHIJKLMNOPQRSTUVWXYZ01234567\nB") ∷
    parse "/A\nABCDEFGHIJKLMNOPQRSTUVWXYZ012345678\nB" (ok Field59NoOption (some "A") "" ("ABCDEFGHIJKLMNOPQRSTUVWXYZ012345678" ∷ "B" ∷ []) ":59:/A\nABCDEFGHIJKLMNOPQRSTUVWXYZ012345678\nB") ∷
    parse "/A\nABCDEFGHIJKLMNOPQRSTUVWXYZ0123456789\nB" (no 4 2) ∷
    parse "A" (ok Field59NoOption none "" ("A" ∷ []) ":59:A") ∷
    parse "A\nA" (ok Field59NoOption none "" ("A" ∷ "A" ∷ []) ":59:A\nA") ∷
    parse "A\nA\nA" (ok Field59NoOption none "" ("A" ∷ "A" ∷ "A" ∷ []) ":59:A\nA\nA") ∷
    parse "A\nA\nA\nA" (ok Field59NoOption none "" ("A" ∷ "A" ∷ "A" ∷ "A" ∷ []) ":59:A\nA\nA\nA") ∷
    parse "A\nA\nA\nA\nA\nA" (no 7 0) ∷
    parse "ABCDEFGHIJKLMNOPQRSTUVWXYZ01234567" (ok Field59NoOption none "" ("ABCDEFGHIJKLMNOPQRSTUVWXYZ01234567" ∷ []) ":59:ABCDEFGHIJKLMNOPQRSTUVWXYZ01234567") ∷
    parse "ABCDEFGHIJKLMNOPQRSTUVWXYZ012345678" (ok Field59NoOption none "" ("ABCDEFGHIJKLMNOPQRSTUVWXYZ012345678" ∷ []) ":59:ABCDEFGHIJKLMNOPQRSTUVWXYZ012345678") ∷
    parse "A\nA\nA\n" (ok Field59NoOption none "" ("A" ∷ "A" ∷ "A" ∷ []) ":59:A\nA\nA") ∷
    parse "A\nA\nA\nABCDEFGHIJKLMNOPQRSTUVWXYZ01234567" (ok Field59NoOption none "" ("A" ∷ "A" ∷ "A" ∷ "ABCDEFGHIJKLMNOPQRSTUVWXYZ01234567" ∷ []) ":59:A\nA\nA\nABCDEFGHIJKLMNOPQRSTUVWXYZ01234567") ∷
    parse "A\nA\nA\nABCDEFGHIJKLMNOPQRSTUVWXYZ012345678" (ok Field59NoOption none "" ("A" ∷ "A" ∷ "A" ∷ "ABCDEFGHIJKLMNOPQRSTUVWXYZ012345678" ∷ []) ":59:A\nA\nA\nABCDEFGHIJKLMNOPQRSTUVWXYZ012345678") ∷
    parse "\nB" (ok Field59NoOption none "" ("" ∷ "B" ∷ []) ":59:\nB") ∷
    parse "A\nB" (ok Field59NoOption none "" ("A" ∷ "B" ∷ []) ":59:A\nB") ∷
    parse "ABCDEFGHIJKLMNOPQRSTUVWXYZ01234567\nB" (ok Field59NoOption none "" ("ABCDEFGHIJKLMNOPQRSTUVWXYZ01234567" ∷ "B" ∷ []) ":59:ABCDEFGHIJKLMNOPQRSTUVWXYZ01234567\nB") ∷
    parse "ABCDEFGHIJKLMNOPQRSTUVWXYZ012345678\nB" (ok Field59NoOption none "" ("ABCDEFGHIJKLMNOPQRSTUVWXYZ012345678" ∷ "B" ∷ []) ":59:ABCDEFGHIJKLMNOPQRSTUVWXYZ012345678\nB") ∷
    parse "ABCDEFGHIJKLMNOPQRSTUVWXYZ0123456789\nB" (no 4 1) ∷
    parse "\rA\nB" (ok Field59NoOption none "" ("\rA" ∷ "B" ∷ []) ":59:\rA\nB") ∷
    parse "A\r\nB" (ok Field59NoOption none "" ("A" ∷ "B" ∷ []) ":59:A\nB") ∷
    parse "A\n\rB" (ok Field59NoOption none "" ("A" ∷ "\rB" ∷ []) ":59:A\n\rB") ∷
    parse "A\nB\r" (ok Field59NoOption none "" ("A" ∷ "B\r" ∷ []) ":59:A\nB\r") ∷
    parse "\nA\nB" (ok Field59NoOption none "" ("" ∷ "A" ∷ "B" ∷ []) ":59:\nA\nB") ∷
    parse "A\n\nB" (ok Field59NoOption none "" ("A" ∷ "" ∷ "B" ∷ []) ":59:A\n\nB") ∷
    parse "A\nB\n" (ok Field59NoOption none "" ("A" ∷ "B" ∷ []) ":59:A\nB") ∷
    parse "\r\nA\nB" (ok Field59NoOption none "" ("" ∷ "A" ∷ "B" ∷ []) ":59:\nA\nB") ∷
    parse "A\r\n\nB" (ok Field59NoOption none "" ("A" ∷ "" ∷ "B" ∷ []) ":59:A\n\nB") ∷
    parse "A\n\r\nB" (ok Field59NoOption none "" ("A" ∷ "" ∷ "B" ∷ []) ":59:A\n\nB") ∷
    parse "A\nB\r\n" (ok Field59NoOption none "" ("A" ∷ "B" ∷ []) ":59:A\nB") ∷
    parse "\r\nB" (ok Field59NoOption none "" ("" ∷ "B" ∷ []) ":59:\nB") ∷
    parse "A\rB" (ok Field59NoOption none "" ("A\rB" ∷ []) ":59:A\rB") ∷
    parse "A\n\r" (ok Field59NoOption none "" ("A" ∷ "\r" ∷ []) ":59:A\n\r") ∷
    parse "\n\nB" (ok Field59NoOption none "" ("" ∷ "" ∷ "B" ∷ []) ":59:\n\nB") ∷
    parse "A\n\n" (ok Field59NoOption none "" ("A" ∷ "" ∷ []) ":59:A\n") ∷
    parse "\r/1\nA" (ok Field59NoOption none "" ("\r/1" ∷ "A" ∷ []) ":59:\r/1\nA") ∷
    parse "/\r1\nA" (ok Field59NoOption (some "\r1") "" ("A" ∷ []) ":59:/\r1\nA") ∷
    parse "/1\r\nA" (ok Field59NoOption (some "1") "" ("A" ∷ []) ":59:/1\nA") ∷
    parse "/1\n\rA" (ok Field59NoOption (some "1") "" ("\rA" ∷ []) ":59:/1\n\rA") ∷
    parse "/1\nA\r" (ok Field59NoOption (some "1") "" ("A\r" ∷ []) ":59:/1\nA\r") ∷
    parse "\n/1\nA" (ok Field59NoOption none "" ("" ∷ "/1" ∷ "A" ∷ []) ":59:\n/1\nA") ∷
    parse "/\n1\nA" (ok Field59NoOption (some "") "" ("1" ∷ "A" ∷ []) ":59:/\n1\nA") ∷
    parse "/1\n\nA" (ok Field59NoOption (some "1") "" ("" ∷ "A" ∷ []) ":59:/1\n\nA") ∷
    parse "/1\nA\n" (ok Field59NoOption (some "1") "" ("A" ∷ []) ":59:/1\nA") ∷
    parse "\r\n/1\nA" (ok Field59NoOption none "" ("" ∷ "/1" ∷ "A" ∷ []) ":59:\n/1\nA") ∷
    parse "/\r\n1\nA" (ok Field59NoOption (some "") "" ("1" ∷ "A" ∷ []) ":59:/\n1\nA") ∷
    parse "/1\r\n\nA" (ok Field59NoOption (some "1") "" ("" ∷ "A" ∷ []) ":59:/1\n\nA") ∷
    parse "/1\n\r\nA" (ok Field59NoOption (some "1") "" ("" ∷ "A" ∷ []) ":59:/1\n\nA") ∷
    parse "/1\nA\r\n" (ok Field59NoOption (some "1") "" ("A" ∷ []) ":59:/1\nA") ∷
    parse "\r1\nA" (ok Field59NoOption none "" ("\r1" ∷ "A" ∷ []) ":59:\r1\nA") ∷
    parse "/\r\nA" (ok Field59NoOption (some "") "" ("A" ∷ []) ":59:/\nA") ∷
    parse "/1\rA" (no 7 0) ∷
    parse "/1\n\r" (ok Field59NoOption (some "1") "" ("\r" ∷ []) ":59:/1\n\r") ∷
    parse "\n1\nA" (ok Field59NoOption none "" ("" ∷ "1" ∷ "A" ∷ []) ":59:\n1\nA") ∷
    parse "/\n\nA" (ok Field59NoOption (some "") "" ("" ∷ "A" ∷ []) ":59:/\n\nA") ∷
    parse "/1\nA" (ok Field59NoOption (some "1") "" ("A" ∷ []) ":59:/1\nA") ∷
    parse "/1\n\n" (ok Field59NoOption (some "1") "" ("" ∷ []) ":59:/1\n") ∷
    parse "\01\nA" (no 3 1) ∷
    parse " 1\nA" (ok Field59NoOption none "" (" 1" ∷ "A" ∷ []) ":59: 1\nA") ∷
    parse "@1\nA" (ok Field59NoOption none "" ("@1" ∷ "A" ∷ []) ":59:@1\nA") ∷
    parse "[1\nA" (ok Field59NoOption none "" ("[1" ∷ "A" ∷ []) ":59:[1\nA") ∷
    parse "z1\nA" (ok Field59NoOption none "" ("z1" ∷ "A" ∷ []) ":59:z1\nA") ∷
    parse "~1\nA" (no 3 1) ∷
    parse "/\t\nA" (no 3 1) ∷
    parse "/!\nA" (ok Field59NoOption (some "!") "" ("A" ∷ []) ":59:/!\nA") ∷
    parse "/0\nA" (ok Field59NoOption (some "0") "" ("A" ∷ []) ":59:/0\nA") ∷
    parse "/Z\nA" (ok Field59NoOption (some "Z") "" ("A" ∷ []) ":59:/Z\nA") ∷
    parse "/a\nA" (ok Field59NoOption (some "a") "" ("A" ∷ []) ":59:/a\nA") ∷
    parse "/{\nA" (ok Field59NoOption (some "{") "" ("A" ∷ []) ":59:/{\nA") ∷
    parse "/1\0A" (no 3 1) ∷
    parse "/1 A" (no 7 0) ∷
    parse "/1/A" (no 7 0) ∷
    parse "/1@A" (no 7 0) ∷
    parse "/1[A" (no 7 0) ∷
    parse "/1zA" (no 7 0) ∷
    parse "/1~A" (no 3 1) ∷
    parse "/1\n\t" (no 3 2) ∷
    parse "/1\n!" (ok Field59NoOption (some "1") "" ("!" ∷ []) ":59:/1\n!") ∷
    parse "/1\n0" (ok Field59NoOption (some "1") "" ("0" ∷ []) ":59:/1\n0") ∷
    parse "/1\nZ" (ok Field59NoOption (some "1") "" ("Z" ∷ []) ":59:/1\nZ") ∷
    parse "/1\na" (ok Field59NoOption (some "1") "" ("a" ∷ []) ":59:/1\na") ∷
    parse "/1\n{" (ok Field59NoOption (some "1") "" ("{" ∷ []) ":59:/1\n{") ∷
    parse "\n\n\n\n\n\n\n\n\n\n\n\n\n\n\n\n\n\n\n\n\n\n\n\n\n\n\n\n\n\n\n\n\n\n\n\n\n\n\n\n\n\n\n\n\n\n\n\n\n\n\n\n\n\n\n\n\n\n\n\n\n\n\n\n\n\n\n\n\n\n\n\n\n\n\n\n\n\n\n\n\n\n\n\n\n\n\n\n\n\n\n\n\n\n\n\n\n\n\n\n\n\n\n\n\n\n\n\n\n\n\n\n\n\n\n\n\n\n\n\n\n\n\n\n\n\n\n\n\n\n\n\n\n\n\n\n\n\n\n\n\n\n\n\n\n\n\n\n\n\n\n\n\n\n\n\n\n\n\n\n\n\n\n\n\n\n\n\n\n\n\n\n\n\n\n\n\n\n\n\n\n\n\n\n\n\n\n\n\n\n\n\n\n\n\n\n\n\n\n\n\n\n\n\n\n\n\n\n\n\n\n\n\n\n\n\n\n\n\n\n\n\n\n\n\n\n\n\n\n\n\n\n\n\n\n\n\n\n\n\n\n\n\n\n\n\n\n\n\n\n\n\n\n\n\n\n\n\n\n\n\n\n\n\n\n\n\n\n\n\n\n\n\n\n\n\n\n\n\n\n\n\n\n\n\n\n\n\n\n\n\n\n\n\n\n\n\n\n\n\n\n\n\n\n\n\n\n\n\n\n\n\n\n\n\n\n\n\n\n\n\n\n\n\n\n\n\n\n\n\n\n\n\n\n\n\n\n\n\n\n\n\n\n\n\n\n\n\n\n\n\n\n\n\n\n\n\n\n\n\n\n\n\n\n\n\n\n\n\n\n\n\n\n\n\n\n\n\n\n\n\n\n\n\n\n\n\n\n\n\n\n\n\n\n\n\n\n\n\n\n\n\n\n\n\n\n\n\n\n\n\n\n\n\n\n\n\n\n\n\n\n\n\n\n\n\n\n\n\n\n\n\n\n\n\n\n\n\n\n\n\n\n\n\n\n\n\n\n\n\n\n\n\n\n\n\n\n\n\n\n\n\n\n\n\n\n\n\n\n\n\n\n\n\n\n\n\n\n\n\n\n\n\n\n\n\n\n\n\n\n\n\n\n\n\n\n\n\n\n\n\n\n\n\n\n\n\n\n\n\n\n\n\n\n\n\n\n\n\n\n\n\n\n\n\n\n\n\n\n\n\n\n\n\n\n\n\n\n\n\n\n\n\n\n\n\n\n\n\n\n\n\n\n\n\n\n\n\n\n\n\n\n\n\n\n\n\n\n\n\n\n\n\n\n\n\n\n\n\n\n\n\n\n\n\n\n\n\n\n\n\n\n\n\n\n\n\n\n\n\n\n\n\n\n\n\n\n\n\n\n\n\n\n\n\n\n\n\n\n\n\n\n\n\n\n\n\n\n\n\n\n\n\n\n\n\n\n\n\n\n\n\n\n\n\n\n\n\n\n\n\n\n\n\n\n\n\n\n\n\n\n\n\n\n\n\n\n\n\n\n\n\n\n\n\n\n\n\n\n\n\n\n\n\n\n\n\n\n\n\n\n\n\n\n\n\n\n\n\n\n\n\n\n\n\n\n\n\n\n\n\n\n\n\n\n\n\n\n\n\n\n\n\n\n\n\n\n\n\n\n\n\n\n\n\n\n\n\n\n\n\n\n\n\n\n\n\n\n\n\n\n\n\n\n\n\n\n\n\n\n\n\n\n\n\n\n\n\n\n\n\n\n\n\n\n\n\n\n\n\n\n\n\n\n\n\n\n\n\n\n\n\n\n\n\n\n\n\n\n\n\n\n\n\n\n\n\n\n\n\n\n\n\n\n\n\n\n\n\n\n\n\n\n\n\n\n\n\n\n\n\n\n\n\n\n\n\n\n\n\n\n\n\n\n\n\n\n\n\n\n\n\n\n\n\n\n\n\n\n\n\n\n\n\n\n\n\n\n\n\n\n\n\n\n\n\n\n\n\n\n\n\n\n\n\n\n\n\n\n\n\n\n\n\n\n\n\n\n\n\n\n\n\n\n\n\n\n\n\n\n\n\n\n\n\n\n\n\n\n\n\n\n\n\n\n\n\n\n\n\n\n\n\n\n\n\n\n\n\n\n\n\n\n\n\n\n\n\n\n\n\n\n\n\n\n\n\n\n\n\n\n\n\n\n\n\n\n\n\n\n\n\n\n\n\n\n\n\n\n\n\n\n\n\n\n\n\n\n\n\n\n\n\n\n\n\n\n\n\n\n\n\n\n\n\n\n\n\n\n\n\n\n\n\n\n\n\n\n\n\n\n\n\n\n\n\n\n\n\n\n\n\n\n\n\n\n\n\n\n\n\n\n\n\n\n\n\n\n\n\n\n\n\n\n\n\n\n\n\n\n\n\n\n\n\n\n\n\n\n\n\n\n\n\n\n\n\n\n\n\n\n\n\n\n\n\n\n\n\n\n\n\n\n\n\n\n\n\n\n\n\n\n\n\n\n\n\n\n\n\n\n\n\n\n\n\n\n\n\n\n\n\n\n\n\n\n\n\n\n\n\n\n\n\n\n\n\n\n\n\n\n\n\n\n\n\n\n\n\n\n\n\n\n\n\n\n\n\n\n\n\n\n\n\n\n\n\n\n\n\n\n\n\n\n\n\n\n\n\n\n\n\n\n\n\n\n\n\n\n\n\n\n\n\n\n\n\n\n\n\n\n\n\n\n\n\n\n\n\n\n\n\n\n\n\n\n\n\n\n\n\n\n\n\n\n\n\n\n\n\n\n\n\n\n\n\n\n\n\n\n\n\n\n\n\n\n\n\n\n\n\n\n\n\n\n\n\n\n\n\n\n\n\n\n\n\n\n\n\n\n\n\n\n\n\n\n\n\n\n\n\n\n\n\n\n\n\n\n\n\n\n\n\n\n\n\n\n\n\n\n\n\n\n\n\n\n\n\n\n\n\n\n\n\n\n\n\n\n\n\n\n\n\n\n\n\n\n\n\n\n\n\n\n\n\n\n\n\n\n\n\n\n\n\n\n\n\n\n\n\n\n\n\n\n\n\n\n\n\n\n\n\n\n\n\n\n\n\n\n\n\n\n\n\n\n\n\n\n\n\n\n\n\n\n\n\n\n\n\n\n\n\n\n\n\n\n\n\n\n\n\n\n\n\n\n\n\n\n\n\n\n\n\n\n\n\n\n\n\n\n\n\n\n\n\n\n\n\n\n\n\n\n\n\n\n\n\n\n\n\n\n\n\n\n\n\n\n\n\n\n\n\n\n\n\n\n\n\n\n\n\n\n\n\n\n\n\n\n\n\n\n\n\n\n\n\n\n\n\n\n\n\n\n\n\n\n\n\n\n\n\n\n\n\n\n\n\n\n\n\n\n\n\n\n\n\n\n\n\n\n\n\n\n\n\n\n\n\n\n\n\n\n\n\n\n\n\n\n\n\n\n\n\n\n\n\n\n\n\n\n\n\n\n\n\n\n\n\n\n\n\n\n\n\n\n\n\n\n\n\n\n\n\n\n\n\n\n\n\n\n\n\n\n\n\n\n\n\n\n\n\n\n\n\n\n\n\n\n\n\n\n\n\n\n\n\n\n\n\n\n\n\n\n\n\n\n\n\n\n\n\n\n\n\n\n\n\n\n\n\n\n\n\n\n\n\n\n\n\n\n\n\n\n\n\n\n\n\n\n\n\n\n\n\n\n\n\n\n\n\n\n\n\n\n\n\n\n\n\n\n\n\n\n\n\n\n\n\n\n\n\n\n\n\n\n\n\n\n\n\n\n\n\n\n\n\n\n\n\n\n\n\n\n\n\n\n\n\n\n\n\n\n\n\n\n\n\n\n\n\n\n\n\n\n\n\n\n\n\n\n\n\n\n\n\n\n\n\n\n\n\n\n\n\n\n\n\n\n\n\n\n\n\n\n\n\n\n\n\n\n\n\n\n\n\n\n\n\n\n\n\n\n\n\n\n\n\n\n\n\n\n\n\n\n\n\n\n\n\n\n\n\n\n\n\n\n\n\n\n\n\n\n\n\n\n\n\n\n\n\n\n\n\n\n\n\n\n\n\n\n\n\n\n\n\n\n\n\n\n\n\n\n\n\n\n\n\n\n\n\n\n\n\n\n\n\n\n\n\n\n\n\n\n\n\n\n\n\n\n\n\n\n\n\n\n\n\n\n\n\n\n\n\n\n\n\n\n\n\n\n\n\n\n\n\n\n\n\n\n\n\n\n\n\n\n\n\n\n\n\n\n\n\n\n\n\n\n\n\n\n\n\n\n\n\n\n\n\n\n\n\n\n\n\n\n\n\n\n\n\n\n\n\n\n\n\n\n\n\n\n\n\n\n\n\n\n\n\n\n\n\n\n\n\n\n\n\n\n\n\n\n\n\n\n\n\n\n\n\n\n\n\n\n\n\n\n\n\n\n\n\n\n\n\n\n\n\n\n\n\n\n\n\n\n\n\n\n\n\n\n\n\n\n\n\n\n\n\n\n\n\n\n\n\n\n\n\n\n\n\n\n\n\n\n\n\n\n\n\n\n\n\n\n\n\n\n\n\n\n\n\n\n\n\n\n\n\n\n\n\n\n\n\n\n\n\n\n~" (no 3 2048) ∷
    parse "\n\n\n\n\n\n\n\n\n\n\n\n\n\n\n\n\n\n\n\n\n\n\n\n\n\n\n\n\n\n\n\n\n\n\n\n\n\n\n\n\n\n\n\n\n\n\n\n\n\n\n\n\n\n\n\n\n\n\n\n\n\n\n\n\n\n\n\n\n\n\n\n\n\n\n\n\n\n\n\n\n\n\n\n\n\n\n\n\n\n\n\n\n\n\n\n\n\n\n\n\n\n\n\n\n\n\n\n\n\n\n\n\n\n\n\n\n\n\n\n\n\n\n\n\n\n\n\n\n\n\n\n\n\n\n\n\n\n\n\n\n\n\n\n\n\n\n\n\n\n\n\n\n\n\n\n\n\n\n\n\n\n\n\n\n\n\n\n\n\n\n\n\n\n\n\n\n\n\n\n\n\n\n\n\n\n\n\n\n\n\n\n\n\n\n\n\n\n\n\n\n\n\n\n\n\n\n\n\n\n\n\n\n\n\n\n\n\n\n\n\n\n\n\n\n\n\n\n\n\n\n\n\n\n\n\n\n\n\n\n\n\n\n\n\n\n\n\n\n\n\n\n\n\n\n\n\n\n\n\n\n\n\n\n\n\n\n\n\n\n\n\n\n\n\n\n\n\n\n\n\n\n\n\n\n\n\n\n\n\n\n\n\n\n\n\n\n\n\n\n\n\n\n\n\n\n\n\n\n\n\n\n\n\n\n\n\n\n\n\n\n\n\n\n\n\n\n\n\n\n\n\n\n\n\n\n\n\n\n\n\n\n\n\n\n\n\n\n\n\n\n\n\n\n\n\n\n\n\n\n\n\n\n\n\n\n\n\n\n\n\n\n\n\n\n\n\n\n\n\n\n\n\n\n\n\n\n\n\n\n\n\n\n\n\n\n\n\n\n\n\n\n\n\n\n\n\n\n\n\n\n\n\n\n\n\n\n\n\n\n\n\n\n\n\n\n\n\n\n\n\n\n\n\n\n\n\n\n\n\n\n\n\n\n\n\n\n\n\n\n\n\n\n\n\n\n\n\n\n\n\n\n\n\n\n\n\n\n\n\n\n\n\n\n\n\n\n\n\n\n\n\n\n\n\n\n\n\n\n\n\n\n\n\n\n\n\n\n\n\n\n\n\n\n\n\n\n\n\n\n\n\n\n\n\n\n\n\n\n\n\n\n\n\n\n\n\n\n\n\n\n\n\n\n\n\n\n\n\n\n\n\n\n\n\n\n\n\n\n\n\n\n\n\n\n\n\n\n\n\n\n\n\n\n\n\n\n\n\n\n\n\n\n\n\n\n\n\n\n\n\n\n\n\n\n\n\n\n\n\n\n\n\n\n\n\n\n\n\n\n\n\n\n\n\n\n\n\n\n\n\n\n\n\n\n\n\n\n\n\n\n\n\n\n\n\n\n\n\n\n\n\n\n\n\n\n\n\n\n\n\n\n\n\n\n\n\n\n\n\n\n\n\n\n\n\n\n\n\n\n\n\n\n\n\n\n\n\n\n\n\n\n\n\n\n\n\n\n\n\n\n\n\n\n\n\n\n\n\n\n\n\n\n\n\n\n\n\n\n\n\n\n\n\n\n\n\n\n\n\n\n\n\n\n\n\n\n\n\n\n\n\n\n\n\n\n\n\n\n\n\n\n\n\n\n\n\n\n\n\n\n\n\n\n\n\n\n\n\n\n\n\n\n\n\n\n\n\n\n\n\n\n\n\n\n\n\n\n\n\n\n\n\n\n\n\n\n\n\n\n\n\n\n\n\n\n\n\n\n\n\n\n\n\n\n\n\n\n\n\n\n\n\n\n\n\n\n\n\n\n\n\n\n\n\n\n\n\n\n\n\n\n\n\n\n\n\n\n\n\n\n\n\n\n\n\n\n\n\n\n\n\n\n\n\n\n\n\n\n\n\n\n\n\n\n\n\n\n\n\n\n\n\n\n\n\n\n\n\n\n\n\n\n\n\n\n\n\n\n\n\n\n\n\n\n\n\n\n\n\n\n\n\n\n\n\n\n\n\n\n\n\n\n\n\n\n\n\n\n\n\n\n\n\n\n\n\n\n\n\n\n\n\n\n\n\n\n\n\n\n\n\n\n\n\n\n\n\n\n\n\n\n\n\n\n\n\n\n\n\n\n\n\n\n\n\n\n\n\n\n\n\n\n\n\n\n\n\n\n\n\n\n\n\n\n\n\n\n\n\n\n\n\n\n\n\n\n\n\n\n\n\n\n\n\n\n\n\n\n\n\n\n\n\n\n\n\n\n\n\n\n\n\n\n\n\n\n\n\n\n\n\n\n\n\n\n\n\n\n\n\n\n\n\n\n\n\n\n\n\n\n\n\n\n\n\n\n\n\n\n\n\n\n\n\n\n\n\n\n\n\n\n\n\n\n\n\n\n\n\n\n\n\n\n\n\n\n\n\n\n\n\n\n\n\n\n\n\n\n\n\n\n\n\n\n\n\n\n\n\n\n\n\n\n\n\n\n\n\n\n\n\n\n\n\n\n\n\n\n\n\n\n\n\n\n\n\n\n\n\n\n\n\n\n\n\n\n\n\n\n\n\n\n\n\n\n\n\n\n\n\n\n\n\n\n\n\n\n\n\n\n\n\n\n\n\n\n\n\n\n\n\n\n\n\n\n\n\n\n\n\n\n\n\n\n\n\n\n\n\n\n\n\n\n\n\n\n\n\n\n\n\n\n\n\n\n\n\n\n\n\n\n\n\n\n\n\n\n\n\n\n\n\n\n\n\n\n\n\n\n\n\n\n\n\n\n\n\n\n\n\n\n\n\n\n\n\n\n\n\n\n\n\n\n\n\n\n\n\n\n\n\n\n\n\n\n\n\n\n\n\n\n\n\n\n\n\n\n\n\n\n\n\n\n\n\n\n\n\n\n\n\n\n\n\n\n\n\n\n\n\n\n\n\n\n\n\n\n\n\n\n\n\n\n\n\n\n\n\n\n\n\n\n\n\n\n\n\n\n\n\n\n\n\n\n\n\n\n\n\n\n\n\n\n\n\n\n\n\n\n\n\n\n\n\n\n\n\n\n\n\n\n\n\n\n\n\n\n\n\n\n\n\n\n\n\n\n\n\n\n\n\n\n\n\n\n\n\n\n\n\n\n\n\n\n\n\n\n\n\n\n\n\n\n\n\n\n\n\n\n\n\n\n\n\n\n\n\n\n\n\n\n\n\n\n\n\n\n\n\n\n\n\n\n\n\n\n\n\n\n\n\n\n\n\n\n\n\n\n\n\n\n\n\n\n\n\n\n\n\n\n\n\n\n\n\n\n\n\n\n\n\n\n\n\n\n\n\n\n\n\n\n\n\n\n\n\n\n\n\n\n\n\n\n\n\n\n\n\n\n\n\n\n\n\n\n\n\n\n\n\n\n\n\n\n\n\n\n\n\n\n\n\n\n\n\n\n\n\n\n\n\n\n\n\n\n\n\n\n\n\n\n\n\n\n\n\n\n\n\n\n\n\n\n\n\n\n\n\n\n\n\n\n\n\n\n\n\n\n\n\n\n\n\n\n\n\n\n\n\n\n\n\n\n\n\n\n\n\n\n\n\n\n\n\n\n\n\n\n\n\n\n\n\n\n\n\n\n\n\n\n\n\n\n\n\n\n\n\n\n\n\n\n\n\n\n\n\n\n\n\n\n\n\n\n\n\n\n\n\n\n\n\n\n\n\n\n\n\n\n\n\n\n\n\n\n\n\n\n\n\n\n\n\n\n\n\n\n\n\n\n\n\n\n\n\n\n\n\n\n\n\n\n\n\n\n\n\n\n\n\n\n\n\n\n\n\n\n\n\n\n\n\n\n\n\n\n\n\n\n\n\n\n\n\n\n\n\n\n\n\n\n\n\n\n\n\n\n\n\n\n\n\n\n\n\n\n\n\n\n\n\n\n\n\n\n\n\n\n\n\n\n\n\n\n\n\n\n\n\n\n\n\n\n\n\n\n\n\n\n\n\n\n\n\n\n\n\n\n\n\n\n\n\n\n\n\n\n\n\n\n\n\n\n\n\n\n\n\n\n\n\n\n\n\n\n\n\n\n\n\n\n\n\n\n\n\n\n\n\n\n\n\n\n\n\n\n\n\n\n\n\n\n\n\n\n\n\n\n\n\n\n\n\n\n\n\n\n\n\n\n\n\n\n\n\n\n\n\n\n\n\n\n\n\n\n\n\n\n\n\n\n\n\n\n\n\n\n\n\n\n\n\n\n\n\n\n\n\n\n\n\n\n\n\n\n\n\n\n\n\n\n\n\n\n\n\n\n\n\n\n\n\n\n\n\n\n\n\n\n\n\n\n\n\n\n\n\n\n\n\n\n\n\n\n\n\n\n\n\n\n\n\n\n\n\n\n\n\n\n\n\n\n\n\n\n\n\n\n\n\n\n\n\n\n\n\n\n\n\n\n\n\n\n\n\n\n\n\n\n\n\n\n\n\n\n\n\n\n\n\n\n\n\n\n\n\n\n\n\n\n\n\n\n\n\n\n\n\n\n\n\nABCDEFGHIJKLMNOPQRSTUVWXYZ0123456789" (no 4 2013) ∷
    parse "t_acX.\n(-\n'>1_\n@\n8+z" (no 7 0) ∷
    parse " UBSWCHZ0\nABCDEFGHIJKL\n\r/+" (ok Field59NoOption none "" (" UBSWCHZ0" ∷ "ABCDEFGHIJKL" ∷ "\r/+" ∷ []) ":59: UBSWCHZ0\nABCDEFGHIJKL\n\r/+") ∷
    parse "*#<_)\n[!/|#\n@\nABCDEFGHIJKLMNOPQRSTUVWXYZ012345678" (ok Field59NoOption none "" ("*#<_)" ∷ "[!/|#" ∷ "@" ∷ "ABCDEFGHIJKLMNOPQRSTUVWXYZ012345678" ∷ []) ":59:*#<_)\n[!/|#\n@\nABCDEFGHIJKLMNOPQRSTUVWXYZ012345678") ∷
    parse "/ABCDEFGHIJKLMNOPQRSTUVWXYZ012345678\n\"[\r/1zb+&0" (no 4 1) ∷
    parse "/1/x)@0_\nABCDEFGHIJKLMNOPQRSTUVWXYZ0123456\n/:[0YB?\r" (ok Field59NoOption (some "1/x)@0_") "" ("ABCDEFGHIJKLMNOPQRSTUVWXYZ0123456" ∷ "/:[0YB?\r" ∷ []) ":59:/1/x)@0_\nABCDEFGHIJKLMNOPQRSTUVWXYZ0123456\n/:[0YB?\r") ∷
    parse "/C/%9$\n*.C,\n!cy<}cy<}+\nb-\n" (ok Field59NoOption (some "C/%9$") "" ("*.C," ∷ "!cy<}cy<}+" ∷ "b-" ∷ []) ":59:/C/%9$\n*.C,\n!cy<}cy<}+\nb-") ∷
    parse "A/:B" (ok Field59NoOption none "" ("A/:B" ∷ []) ":59:A/:B") ∷
    parse "ABCDEF123AZ\rABCDEFGHIJK\n9/{(?}\r ABCDEF123AZ\n" (ok Field59NoOption none "" ("ABCDEF123AZ\rABCDEFGHIJK" ∷ "9/{(?}\r ABCDEF123AZ" ∷ []) ":59:ABCDEF123AZ\rABCDEFGHIJK\n9/{(?}\r ABCDEF123AZ") ∷
    parse "A\n" (ok Field59NoOption none "" ("A" ∷ []) ":59:A") ∷
    parse "//FW\r\nABCDEFGHIJKLMNOPQRSTUVWXYZ/234567\r\n#?.Zc\r\n@_:X'*" (ok Field59NoOption (some "/FW") "" ("ABCDEFGHIJKLMNOPQRSTUVWXYZ/234567" ∷ "#?.Zc" ∷ "@_:X'*" ∷ []) ":59://FW\nABCDEFGHIJKLMNOPQRSTUVWXYZ/234567\n#?.Zc\n@_:X'*") ∷
    parse "0/._+\n/-z|\"*y" (ok Field59NoOption none "" ("0/._+" ∷ "/-z|\"*y" ∷ []) ":59:0/._+\n/-z|\"*y") ∷
    parse ")zb||\n1}y\n#A\ny&Z" (ok Field59NoOption none "" (")zb||" ∷ "1}y" ∷ "#A" ∷ "y&Z" ∷ []) ":59:)zb||\n1}y\n#A\ny&Z") ∷
    parse "ABCDEFGHIJKLMNOPQRSTUVWXYZ012345678\nc1}8\n+0|\n|$)A?;2345678\nc1}8\n+0|\n|$)A?;" (no 7 0) ∷
    parse "/$yx,$/[B \r\n//cB\n7/ABCDEFGHIJKLMNOPQRSTUVWXYZ0123456\n3/C}-9_:\n UBSWCHZ0 " (ok Field59NoOption (some "$yx,$/[B ") "" ("//cB" ∷ "7/ABCDEFGHIJKLMNOPQRSTUVWXYZ0123456" ∷ "3/C}-9_:" ∷ " UBSWCHZ0 " ∷ []) ":59:/$yx,$/[B \n//cB\n7/ABCDEFGHIJKLMNOPQRSTUVWXYZ0123456\n3/C}-9_:\n UBSWCHZ0 ") ∷
    parse "/'\n\n" (ok Field59NoOption (some "'") "" ("" ∷ []) ":59:/'\n") ∷
    parse "//RT1\n@\nABCDEFGHIJKLMNOPQRSTUVWXYZ012345678\n" (ok Field59NoOption (some "/RT1") "" ("@" ∷ "ABCDEFGHIJKLMNOPQRSTUVWXYZ012345678" ∷ []) ":59://RT1\n@\nABCDEFGHIJKLMNOPQRSTUVWXYZ012345678") ∷
    parse "/GB82W\nST1234569876432\nJOHN SMITH\n456 AV:ENUE" (ok Field59NoOption (some "GB82W") "" ("ST1234569876432" ∷ "JOHN SMITH" ∷ "456 AV:ENUE" ∷ []) ":59:/GB82W\nST1234569876432\nJOHN SMITH\n456 AV:ENUE") ∷
    parse "\n{x?\r DEUTDEFF500" (ok Field59NoOption none "" ("" ∷ "{x?\r DEUTDEFF500" ∷ []) ":59:\n{x?\r DEUTDEFF500") ∷
    parse "/C/*>#'[:\r\n\r\n=a*\"0\r\n" (ok Field59NoOption (some "C/*>#'[:") "" ("" ∷ "=a*\"0" ∷ []) ":59:/C/*>#'[:\n\n=a*\"0") ∷
    parse "JOHN SMITH\n456: AVENUE\nLONDON\nGB" (ok Field59NoOption none "" ("JOHN SMITH" ∷ "456: AVENUE" ∷ "LONDON" ∷ "GB" ∷ []) ":59:JOHN SMITH\n456: AVENUE\nLONDON\nGB") ∷
    parse "/C/!L-!-$](]\n)@-a>C\n}\n" (ok Field59NoOption (some "C/!L-!-$](]") "" (")@-a>C" ∷ "}" ∷ []) ":59:/C/!L-!-$](]\n)@-a>C\n}") ∷
    []

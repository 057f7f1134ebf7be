-- Made of crates/replay/stdin by tests/rust/listed: the cases of 50K.
use Rattle.std.specs.Prelude.{List, [], ◌∷◌}
use Rattle.std.proofs.Math.Option.{none, some}
use Rattle.party.specs.declared.PartyOption.TheVariants.{Field50K}
use Rattle.swift_mt_message.specs.Cases.{Case, parse, ok, no}

abbrev pub cases : List Case
cases =
    parse "a\n\n" (ok Field50K none "" ("a" ∷ "" ∷ []) ":50K:a\n") ∷
    parse "A\nA\nA\nA\nA" (no 7 0) ∷
    parse "A" (ok Field50K none "" ("A" ∷ []) ":50K:A") ∷
    parse "/\nA" (ok Field50K (some "") "" ("A" ∷ []) ":50K:/\nA") ∷
    parse "" (no 1 0) ∷
    parse "/ABCDEFGHIJKLMNOPQRSTUVWXYZ0123456789\nA" (no 2 1) ∷
    parse "/ABCDEFGHIJKLMNOPQRSTUVWXYZ012345678\nA" (no 2 1) ∷
    parse "~\n~" (no 3 1) ∷
    parse "~" (no 3 1) ∷
    parse "A\0\n~" (no 3 1) ∷
    parse "A\0" (no 3 1) ∷
    parse "A\n~\n~" (no 3 2) ∷
    parse "A\n~" (no 3 2) ∷
    parse "A\nA\0\n~" (no 3 2) ∷
    parse "A\nA\0" (no 3 2) ∷
    parse "A\nA\n~\n~" (no 3 3) ∷
    parse "A\nA\n~" (no 3 3) ∷
    parse "A\nA\nA\0\n~" (no 3 3) ∷
    parse "A\nA\nA\0" (no 3 3) ∷
    parse "A\nA\nA\n~\n~" (no 3 4) ∷
    parse "A\nA\nA\n~" (no 3 4) ∷
    parse "A\nA\nA\nA\0\n~" (no 3 4) ∷
    parse "A\nA\nA\nA\0" (no 3 4) ∷
    parse "A\nA\nA\nA\n~\n~" (no 3 5) ∷
    parse "A\nA\nA\nA\n~" (no 3 5) ∷
    parse "A\nA\nA\nA\nA\0\n~" (no 3 5) ∷
    parse "A\nA\nA\nA\nA\0" (no 3 5) ∷
    parse "A\nA\nA\nA\nA\n~\n~" (no 3 6) ∷
    parse "A\nA\nA\nA\nA\n~" (no 3 6) ∷
    parse "A\nA\nA\nA\nA\nA\0\n~" (no 3 6) ∷
    parse "A\nA\nA\nA\nA\nA\0" (no 3 6) ∷
    parse "A\nA\nA\nA\nA\nA\n~\n~" (no 3 7) ∷
    parse "A\nA\nA\nA\nA\nA\n~" (no 3 7) ∷
    parse "A\nA\nA\nA\nA\nA\nA\0\n~" (no 3 7) ∷
    parse "A\nA\nA\nA\nA\nA\nA\0" (no 3 7) ∷
    parse "A\nA\nA\nA\nA\nA\nA\n~\n~" (no 3 8) ∷
    parse "A\nA\nA\nA\nA\nA\nA\n~" (no 3 8) ∷
    parse "A\nA\nA\nA\nA\nA\nA\nA\0\n~" (no 3 8) ∷
    parse "A\nA\nA\nA\nA\nA\nA\nA\0" (no 3 8) ∷
    parse "A\nA\nA\nA\nA\nA\nA\nA\n~\n~" (no 3 9) ∷
    parse "A\nA\nA\nA\nA\nA\nA\nA\n~" (no 3 9) ∷
    parse "A\nA\nA\nA\nA\nA\nA\nA\nA\0\n~" (no 3 9) ∷
    parse "A\nA\nA\nA\nA\nA\nA\nA\nA\0" (no 3 9) ∷
    parse "A\nA\nA\nA\nA\nA\nA\nA\nA\n~\n~" (no 3 10) ∷
    parse "A\nA\nA\nA\nA\nA\nA\nA\nA\n~" (no 3 10) ∷
    parse "A\nA\nA\nA\nA\nA\nA\nA\nA\nA\0\n~" (no 3 10) ∷
    parse "A\nA\nA\nA\nA\nA\nA\nA\nA\nA\0" (no 3 10) ∷
    parse "A\nA\nA\nA\nA\nA\nA\nA\nA\nA\n~\n~" (no 3 11) ∷
    parse "A\nA\nA\nA\nA\nA\nA\nA\nA\nA\n~" (no 3 11) ∷
    parse "A\nA\nA\nA\nA\nA\nA\nA\nA\nA\nA\0\n~" (no 3 11) ∷
    parse "A\nA\nA\nA\nA\nA\nA\nA\nA\nA\nA\0" (no 3 11) ∷
    parse "A\nA\nA\nA\nA\nA\nA\nA\nA\nA\nA\nA\nA\nA\nA\nA\nA\nA\nA\nA\nA\nA\nA\nA\nA\nA\nA\nA\nA\nA\nA\nA\nA\nA\nA\nA\nA\nA\nA\n~\n~" (no 3 40) ∷
    parse "A\nA\nA\nA\nA\nA\nA\nA\nA\nA\nA\nA\nA\nA\nA\nA\nA\nA\nA\nA\nA\nA\nA\nA\nA\nA\nA\nA\nA\nA\nA\nA\nA\nA\nA\nA\nA\nA\nA\n~" (no 3 40) ∷
    parse "A\nA\nA\nA\nA\nA\nA\nA\nA\nA\nA\nA\nA\nA\nA\nA\nA\nA\nA\nA\nA\nA\nA\nA\nA\nA\nA\nA\nA\nA\nA\nA\nA\nA\nA\nA\nA\nA\nA\nA\0\n~" (no 3 40) ∷
    parse "A\nA\nA\nA\nA\nA\nA\nA\nA\nA\nA\nA\nA\nA\nA\nA\nA\nA\nA\nA\nA\nA\nA\nA\nA\nA\nA\nA\nA\nA\nA\nA\nA\nA\nA\nA\nA\nA\nA\nA\0" (no 3 40) ∷
    parse "ABCDEFGHIJKLMNOPQRSTUVWXYZ0123456789\n~" (no 4 1) ∷
    parse "ABCDEFGHIJKLMNOPQRSTUVWXYZ0123456789" (no 4 1) ∷
    parse "A\nABCDEFGHIJKLMNOPQRSTUVWXYZ0123456789\n~" (no 4 2) ∷
    parse "A\nABCDEFGHIJKLMNOPQRSTUVWXYZ0123456789" (no 4 2) ∷
    parse "/A\nABCDEFGHIJKLMNOPQRSTUVWXYZ0123456789\n~" (no 4 2) ∷
    parse "/A\nABCDEFGHIJKLMNOPQRSTUVWXYZ0123456789" (no 4 2) ∷
    parse "A\nA\nABCDEFGHIJKLMNOPQRSTUVWXYZ0123456789\n~" (no 4 3) ∷
    parse "A\nA\nABCDEFGHIJKLMNOPQRSTUVWXYZ0123456789" (no 4 3) ∷
    parse "/A\nA\nABCDEFGHIJKLMNOPQRSTUVWXYZ0123456789\n~" (no 4 3) ∷
    parse "/A\nA\nABCDEFGHIJKLMNOPQRSTUVWXYZ0123456789" (no 4 3) ∷
    parse "A\nA\nA\nABCDEFGHIJKLMNOPQRSTUVWXYZ0123456789\n~" (no 4 4) ∷
    parse "A\nA\nA\nABCDEFGHIJKLMNOPQRSTUVWXYZ0123456789" (no 4 4) ∷
    parse "/A\nA\nA\nABCDEFGHIJKLMNOPQRSTUVWXYZ0123456789\n~" (no 4 4) ∷
    parse "/A\nA\nA\nABCDEFGHIJKLMNOPQRSTUVWXYZ0123456789" (no 4 4) ∷
    parse "A\nA\nA\nA\nABCDEFGHIJKLMNOPQRSTUVWXYZ0123456789\n~" (no 4 5) ∷
    parse "A\nA\nA\nA\nABCDEFGHIJKLMNOPQRSTUVWXYZ0123456789" (no 4 5) ∷
    parse "/A\nA\nA\nA\nABCDEFGHIJKLMNOPQRSTUVWXYZ0123456789\n~" (no 4 5) ∷
    parse "/A\nA\nA\nA\nABCDEFGHIJKLMNOPQRSTUVWXYZ0123456789" (no 4 5) ∷
    parse "A\nA\nA\nA\nA\nABCDEFGHIJKLMNOPQRSTUVWXYZ0123456789\n~" (no 4 6) ∷
    parse "A\nA\nA\nA\nA\nABCDEFGHIJKLMNOPQRSTUVWXYZ0123456789" (no 4 6) ∷
    parse "/A\nA\nA\nA\nA\nABCDEFGHIJKLMNOPQRSTUVWXYZ0123456789\n~" (no 4 6) ∷
    parse "/A\nA\nA\nA\nA\nABCDEFGHIJKLMNOPQRSTUVWXYZ0123456789" (no 4 6) ∷
    parse "A\nA\nA\nA\nA\nA\nABCDEFGHIJKLMNOPQRSTUVWXYZ0123456789\n~" (no 4 7) ∷
    parse "A\nA\nA\nA\nA\nA\nABCDEFGHIJKLMNOPQRSTUVWXYZ0123456789" (no 4 7) ∷
    parse "/A\nA\nA\nA\nA\nA\nABCDEFGHIJKLMNOPQRSTUVWXYZ0123456789\n~" (no 4 7) ∷
    parse "/A\nA\nA\nA\nA\nA\nABCDEFGHIJKLMNOPQRSTUVWXYZ0123456789" (no 4 7) ∷
    parse "A\nA\nA\nA\nA\nA\nA\nABCDEFGHIJKLMNOPQRSTUVWXYZ0123456789\n~" (no 4 8) ∷
    parse "A\nA\nA\nA\nA\nA\nA\nABCDEFGHIJKLMNOPQRSTUVWXYZ0123456789" (no 4 8) ∷
    parse "/A\nA\nA\nA\nA\nA\nA\nABCDEFGHIJKLMNOPQRSTUVWXYZ0123456789\n~" (no 4 8) ∷
    parse "/A\nA\nA\nA\nA\nA\nA\nABCDEFGHIJKLMNOPQRSTUVWXYZ0123456789" (no 4 8) ∷
    parse "A\nA\nA\nA\nA\nA\nA\nA\nABCDEFGHIJKLMNOPQRSTUVWXYZ0123456789\n~" (no 4 9) ∷
    parse "A\nA\nA\nA\nA\nA\nA\nA\nABCDEFGHIJKLMNOPQRSTUVWXYZ0123456789" (no 4 9) ∷
    parse "/A\nA\nA\nA\nA\nA\nA\nA\nABCDEFGHIJKLMNOPQRSTUVWXYZ0123456789\n~" (no 4 9) ∷
    parse "/A\nA\nA\nA\nA\nA\nA\nA\nABCDEFGHIJKLMNOPQRSTUVWXYZ0123456789" (no 4 9) ∷
    parse "A\nA\nA\nA\nA\nA\nA\nA\nA\nABCDEFGHIJKLMNOPQRSTUVWXYZ0123456789\n~" (no 4 10) ∷
    parse "A\nA\nA\nA\nA\nA\nA\nA\nA\nABCDEFGHIJKLMNOPQRSTUVWXYZ0123456789" (no 4 10) ∷
    parse "/A\nA\nA\nA\nA\nA\nA\nA\nA\nABCDEFGHIJKLMNOPQRSTUVWXYZ0123456789\n~" (no 4 10) ∷
    parse "/A\nA\nA\nA\nA\nA\nA\nA\nA\nABCDEFGHIJKLMNOPQRSTUVWXYZ0123456789" (no 4 10) ∷
    parse "A\nA\nA\nA\nA\nA\nA\nA\nA\nA\nABCDEFGHIJKLMNOPQRSTUVWXYZ0123456789\n~" (no 4 11) ∷
    parse "A\nA\nA\nA\nA\nA\nA\nA\nA\nA\nABCDEFGHIJKLMNOPQRSTUVWXYZ0123456789" (no 4 11) ∷
    parse "/A\nA\nA\nA\nA\nA\nA\nA\nA\nA\nABCDEFGHIJKLMNOPQRSTUVWXYZ0123456789\n~" (no 4 11) ∷
    parse "/A\nA\nA\nA\nA\nA\nA\nA\nA\nA\nABCDEFGHIJKLMNOPQRSTUVWXYZ0123456789" (no 4 11) ∷
    parse "A\nA\nA\nA\nA\nA\nA\nA\nA\nA\nA\nA\nA\nA\nA\nA\nA\nA\nA\nA\nA\nA\nA\nA\nA\nA\nA\nA\nA\nA\nA\nA\nA\nA\nA\nA\nA\nA\nA\nABCDEFGHIJKLMNOPQRSTUVWXYZ0123456789\n~" (no 4 40) ∷
    parse "A\nA\nA\nA\nA\nA\nA\nA\nA\nA\nA\nA\nA\nA\nA\nA\nA\nA\nA\nA\nA\nA\nA\nA\nA\nA\nA\nA\nA\nA\nA\nA\nA\nA\nA\nA\nA\nA\nA\nABCDEFGHIJKLMNOPQRSTUVWXYZ0123456789" (no 4 40) ∷
    parse "/A\nA\nA\nA\nA\nA\nA\nA\nA\nA\nA\nA\nA\nA\nA\nA\nA\nA\nA\nA\nA\nA\nA\nA\nA\nA\nA\nA\nA\nA\nA\nA\nA\nA\nA\nA\nA\nA\nA\nABCDEFGHIJKLMNOPQRSTUVWXYZ0123456789\n~" (no 4 40) ∷
    parse "/A\nA\nA\nA\nA\nA\nA\nA\nA\nA\nA\nA\nA\nA\nA\nA\nA\nA\nA\nA\nA\nA\nA\nA\nA\nA\nA\nA\nA\nA\nA\nA\nA\nA\nA\nA\nA\nA\nA\nABCDEFGHIJKLMNOPQRSTUVWXYZ0123456789" (no 4 40) ∷
    parse "/A" (no 7 0) ∷
    parse "/\n" (no 7 0) ∷
    parse "/A\nA\nA\nA\nA\nA" (no 7 0) ∷
    parse "/A\nA" (ok Field50K (some "A") "" ("A" ∷ []) ":50K:/A\nA") ∷
    parse "/ABCDEFGHIJKLMNOPQRSTUVWXYZ0123456\nA" (ok Field50K (some "ABCDEFGHIJKLMNOPQRSTUVWXYZ0123456") "" ("A" ∷ []) ":50K:/ABCDEFGHIJKLMNOPQRSTUVWXYZ0123456\nA") ∷
    parse "/ABCDEFGHIJKLMNOPQRSTUVWXYZ01234567\nA" (ok Field50K (some "ABCDEFGHIJKLMNOPQRSTUVWXYZ01234567") "" ("A" ∷ []) ":50K:/ABCDEFGHIJKLMNOPQRSTUVWXYZ01234567\nA") ∷
    parse "/" (no 7 0) ∷
    parse "/ABCDEFGHIJKLMNOPQRSTUVWXYZ0123456" (no 7 0) ∷
    parse "/ABCDEFGHIJKLMNOPQRSTUVWXYZ01234567" (no 7 0) ∷
    parse "/ABCDEFGHIJKLMNOPQRSTUVWXYZ012345678" (no 2 1) ∷
    parse "/ABCDEFGHIJKLMNOPQRSTUVWXYZ0123456789" (no 2 1) ∷
    parse "/A\n" (no 7 0) ∷
    parse "/A\nA\nA" (ok Field50K (some "A") "" ("A" ∷ "A" ∷ []) ":50K:/A\nA\nA") ∷
    parse "/A\nA\nA\nA" (ok Field50K (some "A") "" ("A" ∷ "A" ∷ "A" ∷ []) ":50K:/A\nA\nA\nA") ∷
    parse "/A\nA\nA\nA\nA" (ok Field50K (some "A") "" ("A" ∷ "A" ∷ "A" ∷ "A" ∷ []) ":50K:/A\nA\nA\nA\nA") ∷
    parse "/A\nA\nA\nA\nA\nA\nA" (no 7 0) ∷
    parse "/A\nABCDEFGHIJKLMNOPQRSTUVWXYZ01234567" (ok Field50K (some "A") "" ("ABCDEFGHIJKLMNOPQRSTUVWXYZ01234567" ∷ []) ":50K:/A\nABCDEFGHIJKLMNOPQRSTUVWXYZ01234567") ∷
    parse "/A\nABCDEFGHIJKLMNOPQRSTUVWXYZ012345678" (ok Field50K (some "A") "" ("ABCDEFGHIJKLMNOPQRSTUVWXYZ012345678" ∷ []) ":50K:/A\nABCDEFGHIJKLMNOPQRSTUVWXYZ012345678") ∷
    parse "/A\nA\nA\nA\n" (ok Field50K (some "A") "" ("A" ∷ "A" ∷ "A" ∷ []) ":50K:/A\nA\nA\nA") ∷
    parse "/A\nA\nA\nA\nABCDEFGHIJKLMNOPQRSTUVWXYZ01234567" (ok Field50K (some "A") "" ("A" ∷ "A" ∷ "A" ∷ "ABCDEFGHIJKLMNOPQRSTUVWXYZ01234567" ∷ []) ":50K:/A\nA\nA\nA\nABCDEFGHIJKLMNOPQRSTUVWXYZ01234567") ∷
    parse "/A\nA\nA\nA\nABCDEFGHIJKLMNOPQRSTUVWXYZ012345678" (ok Field50K (some "A") "" ("A" ∷ "A" ∷ "A" ∷ "ABCDEFGHIJKLMNOPQRSTUVWXYZ012345678" ∷ []) ":50K:/A\nA\nA\nA\nABCDEFGHIJKLMNOPQRSTUVWXYZ012345678") ∷
    parse "/A\n\nB" (ok Field50K (some "A") "" ("" ∷ "B" ∷ []) ":50K:/A\n\nB") ∷
    parse "/A\nA\nB" (ok Field50K (some "A") "" ("A" ∷ "B" ∷ []) ":50K:/A\nA\nB") ∷
    parse "/A\nABCDEFGHIJKLMNOPQRSTUVWXYZ01234567\nB" (ok Field50K (some "A") "" ("ABCDEFGHIJKLMNOPQRSTUVWXYZ01234567" ∷ "B" ∷ []) ":50K:/A\nABCDEFGHIJKLMNOPQRSTUVWXYZ01234567\nB") ∷
    parse "/A\nABCDEFGHIJKLMNOPQRSTUVWXYZ012345678\nB" (ok Field50K (some "A") "" ("ABCDEFGHIJKLMNOPQRSTUVWXYZ012345678" ∷ "B" ∷ []) ":50K:/A\nABCDEFGHIJKLMNOPQRSTUVWXYZ012345678\nB") ∷
    parse "/A\nABCDEFGHIJKLMNOPQRSTUVWXYZ0123456789\nB" (no 4 2) ∷
    parse "A\nA" (ok Field50K none "" ("A" ∷ "A" ∷ []) ":50K:A\nA") ∷
    parse "A\nA\nA" (ok Field50K none "" ("A" ∷ "A" ∷ "A" ∷ []) ":50K:A\nA\nA") ∷
    parse "A\nA\nA\nA" (ok Field50K none "" ("A" ∷ "A" ∷ "A" ∷ "A" ∷ []) ":50K:A\nA\nA\nA") ∷
    parse "A\nA\nA\nA\nA\nA" (no 7 0) ∷
    parse "ABCDEFGHIJKLMNOPQRSTUVWXYZ01234567" (ok Field50K none "" ("ABCDEFGHIJKLMNOPQRSTUVWXYZ01234567" ∷ []) ":50K:ABCDEFGHIJKLMNOPQRSTUVWXYZ01234567") ∷
    parse "ABCDEFGHIJKLMNOPQRSTUVWXYZ012345678" (ok Field50K none "" ("ABCDEFGHIJKLMNOPQRSTUVWXYZ012345678" ∷ []) ":50K:ABCDEFGHIJKLMNOPQRSTUVWXYZ012345678") ∷
    parse "A\nA\nA\n" (ok Field50K none "" ("A" ∷ "A" ∷ "A" ∷ []) ":50K:A\nA\nA") ∷
    parse "A\nA\nA\nABCDEFGHIJKLMNOPQRSTUVWXYZ01234567" (ok Field50K none "" ("A" ∷ "A" ∷ "A" ∷ "ABCDEFGHIJKLMNOPQRSTUVWXYZ01234567" ∷ []) ":50K:A\nA\nA\nABCDEFGHIJKLMNOPQRSTUVWXYZ01234567") ∷
    parse "A\nA\nA\nABCDEFGHIJKLMNOPQRSTUVWXYZ012345678" (ok Field50K none "" ("A" ∷ "A" ∷ "A" ∷ "ABCDEFGHIJKLMNOPQRSTUVWXYZ012345678" ∷ []) ":50K:A\nA\nA\nABCDEFGHIJKLMNOPQRSTUVWXYZ012345678") ∷
    parse "\nB" (ok Field50K none "" ("" ∷ "B" ∷ []) ":50K:\nB") ∷
    parse "A\nB" (ok Field50K none "" ("A" ∷ "B" ∷ []) ":50K:A\nB") ∷
    parse "ABCDEFGHIJKLMNOPQRSTUVWXYZ01234567\nB" (ok Field50K none "" ("ABCDEFGHIJKLMNOPQRSTUVWXYZ01234567" ∷ "B" ∷ []) ":50K:ABCDEFGHIJKLMNOPQRSTUVWXYZ01234567\nB") ∷
    parse "ABCDEFGHIJKLMNOPQRSTUVWXYZ012345678\nB" (ok Field50K none "" ("ABCDEFGHIJKLMNOPQRSTUVWXYZ012345678" ∷ "B" ∷ []) ":50K:ABCDEFGHIJKLMNOPQRSTUVWXYZ012345678\nB") ∷
    parse "ABCDEFGHIJKLMNOPQRSTUVWXYZ0123456789\nB" (no 4 1) ∷
    parse "\rA\nB" (ok Field50K none "" ("\rA" ∷ "B" ∷ []) ":50K:\rA\nB") ∷
    parse "A\r\nB" (ok Field50K none "" ("A" ∷ "B" ∷ []) ":50K:A\nB") ∷
    parse "A\n\rB" (ok Field50K none "" ("A" ∷ "\rB" ∷ []) ":50K:A\n\rB") ∷
    parse "A\nB\r" (ok Field50K none "" ("A" ∷ "B\r" ∷ []) ":50K:A\nB\r") ∷
    parse "\nA\nB" (ok Field50K none "" ("" ∷ "A" ∷ "B" ∷ []) ":50K:\nA\nB") ∷
    parse "A\n\nB" (ok Field50K none "" ("A" ∷ "" ∷ "B" ∷ []) ":50K:A\n\nB") ∷
    parse "A\nB\n" (ok Field50K none "" ("A" ∷ "B" ∷ []) ":50K:A\nB") ∷
    parse "\r\nA\nB" (ok Field50K none "" ("" ∷ "A" ∷ "B" ∷ []) ":50K:\nA\nB") ∷
    parse "A\r\n\nB" (ok Field50K none "" ("A" ∷ "" ∷ "B" ∷ []) ":50K:A\n\nB") ∷
    parse "A\n\r\nB" (ok Field50K none "" ("A" ∷ "" ∷ "B" ∷ []) ":50K:A\n\nB") ∷
    parse "A\nB\r\n" (ok Field50K none "" ("A" ∷ "B" ∷ []) ":50K:A\nB") ∷
    parse "\r\nB" (ok Field50K none "" ("" ∷ "B" ∷ []) ":50K:\nB") ∷
    parse "A\rB" (ok Field50K none "" ("A\rB" ∷ []) ":50K:A\rB") ∷
    parse "A\n\r" (ok Field50K none "" ("A" ∷ "\r" ∷ []) ":50K:A\n\r") ∷
    parse "\n\nB" (ok Field50K none "" ("" ∷ "" ∷ "B" ∷ []) ":50K:\n\nB") ∷
    parse "A\n\n" (ok Field50K none "" ("A" ∷ "" ∷ []) ":50K:A\n") ∷
    parse "\r/1\nA" (ok Field50K none "" ("\r/1" ∷ "A" ∷ []) ":50K:\r/1\nA") ∷
    parse "/\r1\nA" (ok Field50K (some "\r1") "" ("A" ∷ []) ":50K:/\r1\nA") ∷
    parse "/1\r\nA" (ok Field50K (some "1") "" ("A" ∷ []) ":50K:/1\nA") ∷
    parse "/1\n\rA" (ok Field50K (some "1") "" ("\rA" ∷ []) ":50K:/1\n\rA") ∷
    parse "/1\nA\r" (ok Field50K (some "1") "" ("A\r" ∷ []) ":50K:/1\nA\r") ∷
    parse "\n/1\nA" (ok Field50K none "" ("" ∷ "/1" ∷ "A" ∷ []) ":50K:\n/1\nA") ∷
    parse "/\n1\nA" (ok Field50K (some "") "" ("1" ∷ "A" ∷ []) ":50K:/\n1\nA") ∷
    parse "/1\n\nA" (ok Field50K (some "1") "" ("" ∷ "A" ∷ []) ":50K:/1\n\nA") ∷
    parse "/1\nA\n" (ok Field50K (some "1") "" ("A" ∷ []) ":50K:/1\nA") ∷
    parse "\r\n/1\nA" (ok Field50K none "" ("" ∷ "/1" ∷ "A" ∷ []) ":50K:\n/1\nA") ∷
    parse "/\r\n1\nA" (ok Field50K (some "") "" ("1" ∷ "A" ∷ []) ":50K:/\n1\nA") ∷
    parse "/1\r\n\nA" (ok Field50K (some "1") "" ("" ∷ "A" ∷ []) ":50K:/1\n\nA") ∷
    parse "/1\n\r\nA" (ok Field50K (some "1") "" ("" ∷ "A" ∷ []) ":50K:/1\n\nA") ∷
    parse "/1\nA\r\n" (ok Field50K (some "1") "" ("A" ∷ []) ":50K:/1\nA") ∷
    parse "\r1\nA" (ok Field50K none "" ("\r1" ∷ "A" ∷ []) ":50K:\r1\nA") ∷
    parse "/\r\nA" (ok Field50K (some "") "" ("A" ∷ []) ":50K:/\nA") ∷
    parse "/1\rA" (no 7 0) ∷
    parse "/1\n\r" (ok Field50K (some "1") "" ("\r" ∷ []) ":50K:/1\n\r") ∷
    parse "\n1\nA" (ok Field50K none "" ("" ∷ "1" ∷ "A" ∷ []) ":50K:\n1\nA") ∷
    parse "/\n\nA" (ok Field50K (some "") "" ("" ∷ "A" ∷ []) ":50K:/\n\nA") ∷
    parse "/1\nA" (ok Field50K (some "1") "" ("A" ∷ []) ":50K:/1\nA") ∷
    parse "/1\n\n" (ok Field50K (some "1") "" ("" ∷ []) ":50K:/1\n") ∷
    parse "\01\nA" (no 3 1) ∷
    parse " 1\nA" (ok Field50K none "" (" 1" ∷ "A" ∷ []) ":50K: 1\nA") ∷
    parse "@1\nA" (ok Field50K none "" ("@1" ∷ "A" ∷ []) ":50K:@1\nA") ∷
    parse "[1\nA" (ok Field50K none "" ("[1" ∷ "A" ∷ []) ":50K:[1\nA") ∷
    parse "z1\nA" (ok Field50K none "" ("z1" ∷ "A" ∷ []) ":50K:z1\nA") ∷
    parse "~1\nA" (no 3 1) ∷
    parse "/\t\nA" (no 3 1) ∷
    parse "/!\nA" (ok Field50K (some "!") "" ("A" ∷ []) ":50K:/!\nA") ∷
    parse "/0\nA" (ok Field50K (some "0") "" ("A" ∷ []) ":50K:/0\nA") ∷
    parse "/Z\nA" (ok Field50K (some "Z") "" ("A" ∷ []) ":50K:/Z\nA") ∷
    parse "/a\nA" (ok Field50K (some "a") "" ("A" ∷ []) ":50K:/a\nA") ∷
    parse "/{\nA" (ok Field50K (some "{") "" ("A" ∷ []) ":50K:/{\nA") ∷
    parse "/1\0A" (no 3 1) ∷
    parse "/1 A" (no 7 0) ∷
    parse "/1/A" (no 7 0) ∷
    parse "/1@A" (no 7 0) ∷
    parse "/1[A" (no 7 0) ∷
    parse "/1zA" (no 7 0) ∷
    parse "/1~A" (no 3 1) ∷
    parse "/1\n\t" (no 3 2) ∷
    parse "/1\n!" (ok Field50K (some "1") "" ("!" ∷ []) ":50K:/1\n!") ∷
    parse "/1\n0" (ok Field50K (some "1") "" ("0" ∷ []) ":50K:/1\n0") ∷
    parse "/1\nZ" (ok Field50K (some "1") "" ("Z" ∷ []) ":50K:/1\nZ") ∷
    parse "/1\na" (ok Field50K (some "1") "" ("a" ∷ []) ":50K:/1\na") ∷
    parse "/1\n{" (ok Field50K (some "1") "" ("{" ∷ []) ":50K:/1\n{") ∷
    parse "\n\n\n\n\n\n\n\n\n\n\n\n\n\n\n\n\n\n\n\n\n\n\n\n\n\n\n\n\n\n\n\n\n\n\n\n\n\n\n\n\n\n\n\n\n\n\n\n\n\n\n\n\n\n\n\n\n\n\n\n\n\n\n\n\n\n\n\n\n\n\n\n\n\n\n\n\n\n\n\n\n\n\n\n\n\n\n\n\n\n\n\n\n\n\n\n\n\n\n\n\n\n\n\n\n\n\n\n\n\n\n\n\n\n\n\n\n\n\n\n\n\n\n\n\n\n\n\n\n\n\n\n\n\n\n\n\n\n\n\n\n\n\n\n\n\n\n\n\n\n\n\n\n\n\n\n\n\n\n\n\n\n\n\n\n\n\n\n\n\n\n\n\n\n\n\n\n\n\n\n\n\n\n\n\n\n\n\n\n\n\n\n\n\n\n\n\n\n\n\n\n\n\n\n\n\n\n\n\n\n\n\n\n\n\n\n\n\n\n\n\n\n\n\n\n\n\n\n\n\n\n\n\n\n\n\n\n\n\n\n\n\n\n\n\n\n\n\n\n\n\n\n\n\n\n\n\n\n\n\n\n\n\n\n\n\n\n\n\n\n\n\n\n\n\n\n\n\n\n\n\n\n\n\n\n\n\n\n\n\n\n\n\n\n\n\n\n\n\n\n\n\n\n\n\n\n\n\n\n\n\n\n\n\n\n\n\n\n\n\n\n\n\n\n\n\n\n\n\n\n\n\n\n\n\n\n\n\n\n\n\n\n\n\n\n\n\n\n\n\n\n\n\n\n\n\n\n\n\n\n\n\n\n\n\n\n\n\n\n\n\n\n\n\n\n\n\n\n\n\n\n\n\n\n\n\n\n\n\n\n\n\n\n\n\n\n\n\n\n\n\n\n\n\n\n\n\n\n\n\n\n\n\n\n\n\n\n\n\n\n\n\n\n\n\n\n\n\n\n\n\n\n\n\n\n\n\n\n\n\n\n\n\n\n\n\n\n\n\n\n\n\n\n\n\n\n\n\n\n\n\n\n\n\n\n\n\n\n\n\n\n\n\n\n\n\n\n\n\n\n\n\n\n\n\n\n\n\n\n\n\n\n\n\n\n\n\n\n\n\n\n\n\n\n\n\n\n\n\n\n\n\n\n\n\n\n\n\n\n\n\n\n\n\n\n\n\n\n\n\n\n\n\n\n\n\n\n\n\n\n\n\n\n\n\n\n\n\n\n\n\n\n\n\n\n\n\n\n\n\n\n\n\n\n\n\n\n\n\n\n\n\n\n\n\n\n\n\n\n\n\n\n\n\n\n\n\n\n\n\n\n\n\n\n\n\n\n\n\n\n\n\n\n\n\n\n\n\n\n\n\n\n\n\n\n\n\n\n\n\n\n\n\n\n\n\n\n\n\n\n\n\n\n\n\n\n\n\n\n\n\n\n\n\n\n\n\n\n\n\n\n\n\n\n\n\n\n\n\n\n\n\n\n\n\n\n\n\n\n\n\n\n\n\n\n\n\n\n\n\n\n\n\n\n\n\n\n\n\n\n\n\n\n\n\n\n\n\n\n\n\n\n\n\n\n\n\n\n\n\n\n\n\n\n\n\n\n\n\n\n\n\n\n\n\n\n\n\n\n\n\n\n\n\n\n\n\n\n\n\n\n\n\n\n\n\n\n\n\n\n\n\n\n\n\n\n\n\n\n\n\n\n\n\n\n\n\n\n\n\n\n\n\n\n\n\n\n\n\n\n\n\n\n\n\n\n\n\n\n\n\n\n\n\n\n\n\n\n\n\n\n\n\n\n\n\n\n\n\n\n\n\n\n\n\n\n\n\n\n\n\n\n\n\n\n\n\n\n\n\n\n\n\n\n\n\n\n\n\n\n\n\n\n\n\n\n\n\n\n\n\n\n\n\n\n\n\n\n\n\n\n\n\n\n\n\n\n\n\n\n\n\n\n\n\n\n\n\n\n\n\n\n\n\n\n\n\n\n\n\n\n\n\n\n\n\n\n\n\n\n\n\n\n\n\n\n\n\n\n\n\n\n\n\n\n\n\n\n\n\n\n\n\n\n\n\n\n\n\n\n\n\n\n\n\n\n\n\n\n\n\n\n\n\n\n\n\n\n\n\n\n\n\n\n\n\n\n\n\n\n\n\n\n\n\n\n\n\n\n\n\n\n\n\n\n\n\n\n\n\n\n\n\n\n\n\n\n\n\n\n\n\n\n\n\n\n\n\n\n\n\n\n\n\n\n\n\n\n\n\n\n\n\n\n\n\n\n\n\n\n\n\n\n\n\n\n\n\n\n\n\n\n\n\n\n\n\n\n\n\n\n\n\n\n\n\n\n\n\n\n\n\n\n\n\n\n\n\n\n\n\n\n\n\n\n\n\n\n\n\n\n\n\n\n\n\n\n\n\n\n\n\n\n\n\n\n\n\n\n\n\n\n\n\n\n\n\n\n\n\n\n\n\n\n\n\n\n\n\n\n\n\n\n\n\n\n\n\n\n\n\n\n\n\n\n\n\n\n\n\n\n\n\n\n\n\n\n\n\n\n\n\n\n\n\n\n\n\n\n\n\n\n\n\n\n\n\n\n\n\n\n\n\n\n\n\n\n\n\n\n\n\n\n\n\n\n\n\n\n\n\n\n\n\n\n\n\n\n\n\n\n\n\n\n\n\n\n\n\n\n\n\n\n\n\n\n\n\n\n\n\n\n\n\n\n\n\n\n\n\n\n\n\n\n\n\n\n\n\n\n\n\n\n\n\n\n\n\n\n\n\n\n\n\n\n\n\n\n\n\n\n\n\n\n\n\n\n\n\n\n\n\n\n\n\n\n\n\n\n\n\n\n\n\n\n\n\n\n\n\n\n\n\n\n\n\n\n\n\n\n\n\n\n\n\n\n\n\n\n\n\n\n\n\n\n\n\n\n\n\n\n\n\n\n\n\n\n\n\n\n\n\n\n\n\n\n\n\n\n\n\n\n\n\n\n\n\n\n\n\n\n\n\n\n\n\n\n\n\n\n\n\n\n\n\n\n\n\n\n\n\n\n\n\n\n\n\n\n\n\n\n\n\n\n\n\n\n\n\n\n\n\n\n\n\n\n\n\n\n\n\n\n\n\n\n\n\n\n\n\n\n\n\n\n\n\n\n\n\n\n\n\n\n\n\n\n\n\n\n\n\n\n\n\n\n\n\n\n\n\n\n\n\n\n\n\n\n\n\n\n\n\n\n\n\n\n\n\n\n\n\n\n\n\n\n\n\n\n\n\n\n\n\n\n\n\n\n\n\n\n\n\n\n\n\n\n\n\n\n\n\n\n\n\n\n\n\n\n\n\n\n\n\n\n\n\n\n\n\n\n\n\n\n\n\n\n\n\n\n\n\n\n\n\n\n\n\n\n\n\n\n\n\n\n\n\n\n\n\n\n\n\n\n\n\n\n\n\n\n\n\n\n\n\n\n\n\n\n\n\n\n\n\n\n\n\n\n\n\n\n\n\n\n\n\n\n\n\n\n\n\n\n\n\n\n\n\n\n\n\n\n\n\n\n\n\n\n\n\n\n\n\n\n\n\n\n\n\n\n\n\n\n\n\n\n\n\n\n\n\n\n\n\n\n\n\n\n\n\n\n\n\n\n\n\n\n\n\n\n\n\n\n\n\n\n\n\n\n\n\n\n\n\n\n\n\n\n\n\n\n\n\n\n\n\n\n\n\n\n\n\n\n\n\n\n\n\n\n\n\n\n\n\n\n\n\n\n\n\n\n\n\n\n\n\n\n\n\n\n\n\n\n\n\n\n\n\n\n\n\n\n\n\n\n\n\n\n\n\n\n\n\n\n\n\n\n\n\n\n\n\n\n\n\n\n\n\n\n\n\n\n\n\n\n\n\n\n\n\n\n\n\n\n\n\n\n\n\n\n\n\n\n\n\n\n\n\n\n\n\n\n\n\n\n\n\n\n\n\n\n\n\n\n\n\n\n\n\n\n\n\n\n\n\n\n\n\n\n\n\n\n\n\n\n\n\n\n\n\n\n\n\n\n\n\n\n\n\n\n\n\n\n\n\n\n\n\n\n\n\n\n\n\n\n\n\n\n\n\n\n\n\n\n\n\n\n\n\n\n\n\n\n\n\n\n\n\n\n\n\n\n\n\n\n\n\n\n\n\n\n\n\n\n\n\n\n\n\n\n\n\n\n\n\n\n\n\n\n\n\n\n\n\n\n\n\n\n\n\n\n\n\n\n\n\n\n\n\n\n\n\n\n\n\n\n\n\n\n\n\n\n\n\n\n\n\n\n\n\n\n\n\n\n\n\n\n\n\n\n\n\n\n\n\n\n\n\n\n\n\n\n\n\n\n\n\n\n\n\n\n\n\n\n\n\n\n\n\n\n\n\n\n\n\n\n\n\n\n\n\n\n\n\n\n\n\n\n\n\n\n\n\n\n\n\n\n\n\n\n\n\n\n\n\n\n\n\n\n\n\n\n\n\n\n\n\n\n\n\n\n\n\n\n\n\n\n\n\n\n\n\n\n\n\n\n\n\n\n\n\n\n\n\n\n\n\n\n\n\n\n\n\n\n\n\n\n\n~" (no 3 2048) ∷
    parse "\n\n\n\n\n\n\n\n\n\n\n\n\n\n\n\n\n\n\n\n\n\n\n\n\n\n\n\n\n\n\n\n\n\n\n\n\n\n\n\n\n\n\n\n\n\n\n\n\n\n\n\n\n\n\n\n\n\n\n\n\n\n\n\n\n\n\n\n\n\n\n\n\n\n\n\n\n\n\n\n\n\n\n\n\n\n\n\n\n\n\n\n\n\n\n\n\n\n\n\n\n\n\n\n\n\n\n\n\n\n\n\n\n\n\n\n\n\n\n\n\n\n\n\n\n\n\n\n\n\n\n\n\n\n\n\n\n\n\n\n\n\n\n\n\n\n\n\n\n\n\n\n\n\n\n\n\n\n\n\n\n\n\n\n\n\n\n\n\n\n\n\n\n\n\n\n\n\n\n\n\n\n\n\n\n\n\n\n\n\n\n\n\n\n\n\n\n\n\n\n\n\n\n\n\n\n\n\n\n\n\n\n\n\n\n\n\n\n\n\n\n\n\n\n\n\n\n\n\n\n\n\n\n\n\n\n\n\n\n\n\n\n\n\n\n\n\n\n\n\n\n\n\n\n\n\n\n\n\n\n\n\n\n\n\n\n\n\n\n\n\n\n\n\n\n\n\n\n\n\n\n\n\n\n\n\n\n\n\n\n\n\n\n\n\n\n\n\n\n\n\n\n\n\n\n\n\n\n\n\n\n\n\n\n\n\n\n\n\n\n\n\n\n\n\n\n\n\n\n\n\n\n\n\n\n\n\n\n\n\n\n\n\n\n\n\n\n\n\n\n\n\n\n\n\n\n\n\n\n\n\n\n\n\n\n\n\n\n\n\n\n\n\n\n\n\n\n\n\n\n\n\n\n\n\n\n\n\n\n\n\n\n\n\n\n\n\n\n\n\n\n\n\n\n\n\n\n\n\n\n\n\n\n\n\n\n\n\n\n\n\n\n\n\n\n\n\n\n\n\n\n\n\n\n\n\n\n\n\n\n\n\n\n\n\n\n\n\n\n\n\n\n\n\n\n\n\n\n\n\n\n\n\n\n\n\n\n\n\n\n\n\n\n\n\n\n\n\n\n\n\n\n\n\n\n\n\n\n\n\n\n\n\n\n\n\n\n\n\n\n\n\n\n\n\n\n\n\n\n\n\n\n\n\n\n\n\n\n\n\n\n\n\n\n\n\n\n\n\n\n\n\n\n\n\n\n\n\n\n\n\n\n\n\n\n\n\n\n\n\n\n\n\n\n\n\n\n\n\n\n\n\n\n\n\n\n\n\n\n\n\n\n\n\n\n\n\n\n\n\n\n\n\n\n\n\n\n\n\n\n\n\n\n\n\n\n\n\n\n\n\n\n\n\n\n\n\n\n\n\n\n\n\n\n\n\n\n\n\n\n\n\n\n\n\n\n\n\n\n\n\n\n\n\n\n\n\n\n\n\n\n\n\n\n\n\n\n\n\n\n\n\n\n\n\n\n\n\n\n\n\n\n\n\n\n\n\n\n\n\n\n\n\n\n\n\n\n\n\n\n\n\n\n\n\n\n\n\n\n\n\n\n\n\n\n\n\n\n\n\n\n\n\n\n\n\n\n\n\n\n\n\n\n\n\n\n\n\n\n\n\n\n\n\n\n\n\n\n\n\n\n\n\n\n\n\n\n\n\n\n\n\n\n\n\n\n\n\n\n\n\n\n\n\n\n\n\n\n\n\n\n\n\n\n\n\n\n\n\n\n\n\n\n\n\n\n\n\n\n\n\n\n\n\n\n\n\n\n\n\n\n\n\n\n\n\n\n\n\n\n\n\n\n\n\n\n\n\n\n\n\n\n\n\n\n\n\n\n\n\n\n\n\n\n\n\n\n\n\n\n\n\n\n\n\n\n\n\n\n\n\n\n\n\n\n\n\n\n\n\n\n\n\n\n\n\n\n\n\n\n\n\n\n\n\n\n\n\n\n\n\n\n\n\n\n\n\n\n\n\n\n\n\n\n\n\n\n\n\n\n\n\n\n\n\n\n\n\n\n\n\n\n\n\n\n\n\n\n\n\n\n\n\n\n\n\n\n\n\n\n\n\n\n\n\n\n\n\n\n\n\n\n\n\n\n\n\n\n\n\n\n\n\n\n\n\n\n\n\n\n\n\n\n\n\n\n\n\n\n\n\n\n\n\n\n\n\n\n\n\n\n\n\n\n\n\n\n\n\n\n\n\n\n\n\n\n\n\n\n\n\n\n\n\n\n\n\n\n\n\n\n\n\n\n\n\n\n\n\n\n\n\n\n\n\n\n\n\n\n\n\n\n\n\n\n\n\n\n\n\n\n\n\n\n\n\n\n\n\n\n\n\n\n\n\n\n\n\n\n\n\n\n\n\n\n\n\n\n\n\n\n\n\n\n\n\n\n\n\n\n\n\n\n\n\n\n\n\n\n\n\n\n\n\n\n\n\n\n\n\n\n\n\n\n\n\n\n\n\n\n\n\n\n\n\n\n\n\n\n\n\n\n\n\n\n\n\n\n\n\n\n\n\n\n\n\n\n\n\n\n\n\n\n\n\n\n\n\n\n\n\n\n\n\n\n\n\n\n\n\n\n\n\n\n\n\n\n\n\n\n\n\n\n\n\n\n\n\n\n\n\n\n\n\n\n\n\n\n\n\n\n\n\n\n\n\n\n\n\n\n\n\n\n\n\n\n\n\n\n\n\n\n\n\n\n\n\n\n\n\n\n\n\n\n\n\n\n\n\n\n\n\n\n\n\n\n\n\n\n\n\n\n\n\n\n\n\n\n\n\n\n\n\n\n\n\n\n\n\n\n\n\n\n\n\n\n\n\n\n\n\n\n\n\n\n\n\n\n\n\n\n\n\n\n\n\n\n\n\n\n\n\n\n\n\n\n\n\n\n\n\n\n\n\n\n\n\n\n\n\n\n\n\n\n\n\n\n\n\n\n\n\n\n\n\n\n\n\n\n\n\n\n\n\n\n\n\n\n\n\n\n\n\n\n\n\n\n\n\n\n\n\n\n\n\n\n\n\n\n\n\n\n\n\n\n\n\n\n\n\n\n\n\n\n\n\n\n\n\n\n\n\n\n\n\n\n\n\n\n\n\n\n\n\n\n\n\n\n\n\n\n\n\n\n\n\n\n\n\n\n\n\n\n\n\n\n\n\n\n\n\n\n\n\n\n\n\n\n\n\n\n\n\n\n\n\n\n\n\n\n\n\n\n\n\n\n\n\n\n\n\n\n\n\n\n\n\n\n\n\n\n\n\n\n\n\n\n\n\n\n\n\n\n\n\n\n\n\n\n\n\n\n\n\n\n\n\n\n\n\n\n\n\n\n\n\n\n\n\n\n\n\n\n\n\n\n\n\n\n\n\n\n\n\n\n\n\n\n\n\n\n\n\n\n\n\n\n\n\n\n\n\n\n\n\n\n\n\n\n\n\n\n\n\n\n\n\n\n\n\n\n\n\n\n\n\n\n\n\n\n\n\n\n\n\n\n\n\n\n\n\n\n\n\n\n\n\n\n\n\n\n\n\n\n\n\n\n\n\n\n\n\n\n\n\n\n\n\n\n\n\n\n\n\n\n\n\n\n\n\n\n\n\n\n\n\n\n\n\n\n\n\n\n\n\n\n\n\n\n\n\n\n\n\n\n\n\n\n\n\n\n\n\n\n\n\n\n\n\n\n\n\n\n\n\n\n\n\n\n\n\n\n\n\n\n\n\n\n\n\n\n\n\n\n\n\n\n\n\n\n\n\n\n\n\n\n\n\n\n\n\n\n\n\n\n\n\n\n\n\n\n\n\n\n\n\n\n\n\n\n\n\n\n\n\n\n\n\n\n\n\n\n\n\n\n\n\n\n\n\n\n\n\n\n\n\n\n\n\n\n\n\n\n\n\n\n\n\n\n\n\n\n\n\n\n\n\n\n\n\n\n\n\n\n\n\n\n\n\n\n\n\n\n\n\n\n\n\n\n\n\n\n\n\n\n\n\n\n\n\n\n\n\n\n\n\n\n\n\n\n\n\n\n\n\n\n\n\n\n\n\n\n\n\n\n\n\n\n\n\n\n\n\n\n\n\n\n\n\n\n\n\n\n\n\n\n\n\n\n\n\n\n\n\n\n\n\n\n\n\n\n\n\n\n\n\n\n\n\n\n\n\n\n\n\n\n\n\n\n\n\n\n\n\n\n\n\n\n\n\n\n\n\n\n\n\n\n\n\n\n\n\n\n\n\n\n\n\n\n\n\n\n\n\n\n\n\n\n\n\n\n\n\n\n\n\n\n\n\n\n\n\n\n\n\n\n\n\n\n\n\n\n\n\n\n\n\n\n\n\n\n\n\n\n\n\n\n\n\n\n\n\n\n\n\n\n\n\n\n\n\n\n\n\n\n\n\n\n\n\n\n\n\n\n\n\n\n\n\n\n\n\n\n\n\n\n\n\n\n\n\n\n\n\n\n\n\n\n\n\n\n\n\n\n\n\n\n\n\n\n\n\n\n\n\n\n\n\n\n\n\n\nABCDEFGHIJKLMNOPQRSTUVWXYZ0123456789" (no 4 2013) ∷
    parse "/DE89370400440532013000\nJOHN DOE\n123 MAIN STREET\nBE/DE89370400440532013000\nJOHN DOE\n123 MAIN STREET\nBERLI" (no 7 0) ∷
    parse "0=*z\n\n(C'0=*z\n\n(C" (no 7 0) ∷
    parse "/@}z 9\r\nDEUTDEFF500\nc\r\n/ " (ok Field50K (some "@}z 9") "" ("DEUTDEFF500" ∷ "c" ∷ "/ " ∷ []) ":50K:/@}z 9\nDEUTDEFF500\nc\n/ ") ∷
    parse "0/ABCDEFGHIJKLMNOPQRSTUVWXYZ012345\n9/]![ -_\n2/\n)\n/ABCDEFGHIJKLMNOPQRSTUVWXYZ01234567\n" (no 7 0) ∷
    parse "0/Z]/\r\n ABCDEFGH\n" (ok Field50K none "" ("0/Z]/" ∷ " ABCDEFGH" ∷ []) ":50K:0/Z]/\n ABCDEFGH") ∷
    parse "//CH123456\n aY/\ny\"{" (ok Field50K (some "/CH123456") "" (" aY/" ∷ "y\"{" ∷ []) ":50K://CH123456\n aY/\ny\"{") ∷
    parse "x-ABCDEFGHIJKLMGHIJKLMNOPQRSTUVWXYZ01K345678\nC" (no 4 1) ∷
    parse "A09\n\rB" (ok Field50K none "" ("A09" ∷ "\rB" ∷ []) ":50K:A09\n\rB") ∷
    parse " ABCDEF123AZ\r" (ok Field50K none "" (" ABCDEF123AZ\r" ∷ []) ":50K: ABCDEF123AZ\r") ∷
    parse "/A\nABCDEFGHIJKLMNOPQRSTUVWXYZ012345" (ok Field50K (some "A") "" ("ABCDEFGHIJKLMNOPQRSTUVWXYZ012345" ∷ []) ":50K:/A\nABCDEFGHIJKLMNOPQRSTUVWXYZ012345") ∷
    parse "/DE89370400440532013 00\nJOHN DOE\n123 MAIN STREET\nB~ERLIN" (no 3 4) ∷
    parse "C\n1/YA}c\n7/9X.X$\r1/.#(-_\r\n4/'$0?\r\nABCDEFGHI\nABCDEFGHIJK" (no 7 0) ∷
    parse "ABCDEFGHIJKLMNOPQRSTUVWXYZ012345678\r\n,." (ok Field50K none "" ("ABCDEFGHIJKLMNOPQRSTUVWXYZ012345678" ∷ ",." ∷ []) ":50K:ABCDEFGHIJKLMNOPQRSTUVWXYZ012345678\n,.") ∷
    parse " :& =" (ok Field50K none "" (" :& =" ∷ []) ":50K: :& =") ∷
    parse "/C/ #/#z\r\nABCDEFGHIJKLMNOPQRSTUVWXYZ01234567\r\n]\r\nY0&--\r\n" (ok Field50K (some "C/ #/#z") "" ("ABCDEFGHIJKLMNOPQRSTUVWXYZ01234567" ∷ "]" ∷ "Y0&--" ∷ []) ":50K:/C/ #/#z\nABCDEFGHIJKLMNOPQRSTUVWXYZ01234567\n]\nY0&--") ∷
    parse "@\r\nABCDEFGHIJK/MNOPQRSTUVWXYZ012345618\r\nABCDEFGHIJKLMNOPQRSTUVWXYZ01234567\r\n)Z.\r\n" (ok Field50K none "" ("@" ∷ "ABCDEFGHIJK/MNOPQRSTUVWXYZ012345618" ∷ "ABCDEFGHIJKLMNOPQRSTUVWXYZ01234567" ∷ ")Z." ∷ []) ":50K:@\nABCDEFGHIJK/MNOPQRSTUVWXYZ012345618\nABCDEFGHIJKLMNOPQRSTUVWXYZ01234567\n)Z.") ∷
    parse "//CH123456\nABCDEFGHIJKLMNOPQRSTUVWXYZ012345678\nXZ \n,/\n" (ok Field50K (some "/CH123456") "" ("ABCDEFGHIJKLMNOPQRSTUVWXYZ012345678" ∷ "XZ " ∷ ",/" ∷ []) ":50K://CH123456\nABCDEFGHIJKLMNOPQRSTUVWXYZ012345678\nXZ \n,/") ∷
    parse "\t\n/B" (no 3 1) ∷
    parse "/A\nABCDEFGHIJKLM8NOPQRST1VWXYZ012345678" (no 4 2) ∷
    []

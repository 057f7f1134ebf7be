-- Made of crates/replay/stdin by tests/rust/listed: the cases of 50L.
use Rattle.std.specs.Prelude.{List, [], ◌∷◌}
use Rattle.std.proofs.Math.Option.{some}
use Rattle.party.specs.declared.PartyOption.TheVariants.{Field50L}
use Rattle.swift_mt_message.specs.Cases.{Case, parse, ok, no}

abbrev pub cases : List Case
cases =
    parse "ABCDEFGHIJKLMNOPQRSTUVWXYZ012345678" (ok Field50L (some "ABCDEFGHIJKLMNOPQRSTUVWXYZ012345678") "" [] ":50L:ABCDEFGHIJKLMNOPQRSTUVWXYZ012345678") ∷
    parse "ABCDEFGHIJKLMNOPQRSTUVWXYZ0123456789" (no 2 1) ∷
    parse "!" (ok Field50L (some "!") "" [] ":50L:!") ∷
    parse "\r" (ok Field50L (some "\r") "" [] ":50L:\r") ∷
    parse "\n" (no 1 0) ∷
    parse "A\n" (no 1 0) ∷
    parse "A\nB" (no 1 0) ∷
    parse "~\n" (no 1 0) ∷
    parse "" (no 2 1) ∷
    parse "ABCDEFGHIJKLMNOPQRSTUVWXYZ0123456789ABCDEFGHIJKLMNOPQRSTUVWXYZ0123456789ABCDEFGHIJKLMNOPQRSTUVWXYZ0" (no 2 1) ∷
    parse "~" (no 3 1) ∷
    parse "A\\" (no 3 1) ∷
    parse "A" (ok Field50L (some "A") "" [] ":50L:A") ∷
    parse "ABCDEFGHIJKLMNOPQRSTUVWXYZ01234567" (ok Field50L (some "ABCDEFGHIJKLMNOPQRSTUVWXYZ01234567") "" [] ":50L:ABCDEFGHIJKLMNOPQRSTUVWXYZ01234567") ∷
    parse "\rAB" (ok Field50L (some "\rAB") "" [] ":50L:\rAB") ∷
    parse "A\rB" (ok Field50L (some "A\rB") "" [] ":50L:A\rB") ∷
    parse "AB\r" (ok Field50L (some "AB\r") "" [] ":50L:AB\r") ∷
    parse "\nAB" (no 1 0) ∷
    parse "AB\n" (no 1 0) ∷
    parse "\r\nAB" (no 1 0) ∷
    parse "A\r\nB" (no 1 0) ∷
    parse "AB\r\n" (no 1 0) ∷
    parse "\rB" (ok Field50L (some "\rB") "" [] ":50L:\rB") ∷
    parse "A\r" (ok Field50L (some "A\r") "" [] ":50L:A\r") ∷
    parse "\nB" (no 1 0) ∷
    parse "\0" (no 3 1) ∷
    parse "\u{1}" (no 3 1) ∷
    parse "\u{2}" (no 3 1) ∷
    parse "\u{3}" (no 3 1) ∷
    parse "\u{4}" (no 3 1) ∷
    parse "\u{5}" (no 3 1) ∷
    parse "\u{6}" (no 3 1) ∷
    parse "\u{7}" (no 3 1) ∷
    parse "\u{8}" (no 3 1) ∷
    parse "\t" (no 3 1) ∷
    parse "\u{b}" (no 3 1) ∷
    parse "\u{c}" (no 3 1) ∷
    parse "\u{e}" (no 3 1) ∷
    parse "\u{f}" (no 3 1) ∷
    parse "\u{10}" (no 3 1) ∷
    parse "\u{11}" (no 3 1) ∷
    parse "\u{12}" (no 3 1) ∷
    parse "\u{13}" (no 3 1) ∷
    parse "\u{14}" (no 3 1) ∷
    parse "\u{15}" (no 3 1) ∷
    parse "\u{16}" (no 3 1) ∷
    parse "\u{17}" (no 3 1) ∷
    parse "\u{18}" (no 3 1) ∷
    parse "\u{19}" (no 3 1) ∷
    parse "\u{1a}" (no 3 1) ∷
    parse "\u{1b}" (no 3 1) ∷
    parse "\u{1c}" (no 3 1) ∷
    parse "\u{1d}" (no 3 1) ∷
    parse "\u{1e}" (no 3 1) ∷
    parse "\u{1f}" (no 3 1) ∷
    parse " " (ok Field50L (some " ") "" [] ":50L: ") ∷
    parse "\"" (ok Field50L (some "\"") "" [] ":50L:\"") ∷
    parse "#" (ok Field50L (some "#") "" [] ":50L:#") ∷
    parse "$" (ok Field50L (some "$") "" [] ":50L:$") ∷
    parse "%" (ok Field50L (some "%") "" [] ":50L:%") ∷
    parse "&" (ok Field50L (some "&") "" [] ":50L:&") ∷
    parse "'" (ok Field50L (some "'") "" [] ":50L:'") ∷
    parse "(" (ok Field50L (some "(") "" [] ":50L:(") ∷
    parse ")" (ok Field50L (some ")") "" [] ":50L:)") ∷
    parse "*" (ok Field50L (some "*") "" [] ":50L:*") ∷
    parse "+" (ok Field50L (some "+") "" [] ":50L:+") ∷
    parse "," (ok Field50L (some ",") "" [] ":50L:,") ∷
    parse "-" (ok Field50L (some "-") "" [] ":50L:-") ∷
    parse "." (ok Field50L (some ".") "" [] ":50L:.") ∷
    parse "/" (ok Field50L (some "/") "" [] ":50L:/") ∷
    parse "0" (ok Field50L (some "0") "" [] ":50L:0") ∷
    parse "1" (ok Field50L (some "1") "" [] ":50L:1") ∷
    parse "2" (ok Field50L (some "2") "" [] ":50L:2") ∷
    parse "3" (ok Field50L (some "3") "" [] ":50L:3") ∷
    parse "4" (ok Field50L (some "4") "" [] ":50L:4") ∷
    parse "5" (ok Field50L (some "5") "" [] ":50L:5") ∷
    parse "6" (ok Field50L (some "6") "" [] ":50L:6") ∷
    parse "7" (ok Field50L (some "7") "" [] ":50L:7") ∷
    parse "8" (ok Field50L (some "8") "" [] ":50L:8") ∷
    parse "9" (ok Field50L (some "9") "" [] ":50L:9") ∷
    parse ":" (ok Field50L (some ":") "" [] ":50L::") ∷
    parse ";" (ok Field50L (some ";") "" [] ":50L:;") ∷
    parse "<" (ok Field50L (some "<") "" [] ":50L:<") ∷
    parse "=" (ok Field50L (some "=") "" [] ":50L:=") ∷
    parse ">" (ok Field50L (some ">") "" [] ":50L:>") ∷
    parse "?" (ok Field50L (some "?") "" [] ":50L:?") ∷
    parse "@" (ok Field50L (some "@") "" [] ":50L:@") ∷
    parse "B" (ok Field50L (some "B") "" [] ":50L:B") ∷
    parse "C" (ok Field50L (some "C") "" [] ":50L:C") ∷
    parse "D" (ok Field50L (some "D") "" [] ":50L:D") ∷
    parse "E" (ok Field50L (some "E") "" [] ":50L:E") ∷
    parse "F" (ok Field50L (some "F") "" [] ":50L:F") ∷
    parse "G" (ok Field50L (some "G") "" [] ":50L:G") ∷
    parse "H" (ok Field50L (some "H") "" [] ":50L:H") ∷
    parse "I" (ok Field50L (some "I") "" [] ":50L:I") ∷
    parse "J" (ok Field50L (some "J") "" [] ":50L:J") ∷
    parse "K" (ok Field50L (some "K") "" [] ":50L:K") ∷
    parse "L" (ok Field50L (some "L") "" [] ":50L:L") ∷
    parse "M" (ok Field50L (some "M") "" [] ":50L:M") ∷
    parse "N" (ok Field50L (some "N") "" [] ":50L:N") ∷
    parse "O" (ok Field50L (some "O") "" [] ":50L:O") ∷
    parse "P" (ok Field50L (some "P") "" [] ":50L:P") ∷
    parse "Q" (ok Field50L (some "Q") "" [] ":50L:Q") ∷
    parse "R" (ok Field50L (some "R") "" [] ":50L:R") ∷
    parse "S" (ok Field50L (some "S") "" [] ":50L:S") ∷
    parse "T" (ok Field50L (some "T") "" [] ":50L:T") ∷
    parse "U" (ok Field50L (some "U") "" [] ":50L:U") ∷
    parse "V" (ok Field50L (some "V") "" [] ":50L:V") ∷
    parse "W" (ok Field50L (some "W") "" [] ":50L:W") ∷
    parse "X" (ok Field50L (some "X") "" [] ":50L:X") ∷
    parse "Y" (ok Field50L (some "Y") "" [] ":50L:Y") ∷
    parse "Z" (ok Field50L (some "Z") "" [] ":50L:Z") ∷
    parse "[" (ok Field50L (some "[") "" [] ":50L:[") ∷
    parse "\\" (no 3 1) ∷
    parse "]" (ok Field50L (some "]") "" [] ":50L:]") ∷
    parse "^" (no 3 1) ∷
    parse "_" (ok Field50L (some "_") "" [] ":50L:_") ∷
    parse "`" (no 3 1) ∷
    parse "a" (ok Field50L (some "a") "" [] ":50L:a") ∷
    parse "b" (ok Field50L (some "b") "" [] ":50L:b") ∷
    parse "c" (ok Field50L (some "c") "" [] ":50L:c") ∷
    parse "d" (ok Field50L (some "d") "" [] ":50L:d") ∷
    parse "e" (ok Field50L (some "e") "" [] ":50L:e") ∷
    parse "f" (ok Field50L (some "f") "" [] ":50L:f") ∷
    parse "g" (ok Field50L (some "g") "" [] ":50L:g") ∷
    parse "h" (ok Field50L (some "h") "" [] ":50L:h") ∷
    parse "i" (ok Field50L (some "i") "" [] ":50L:i") ∷
    parse "j" (ok Field50L (some "j") "" [] ":50L:j") ∷
    parse "k" (ok Field50L (some "k") "" [] ":50L:k") ∷
    parse "l" (ok Field50L (some "l") "" [] ":50L:l") ∷
    parse "m" (ok Field50L (some "m") "" [] ":50L:m") ∷
    parse "n" (ok Field50L (some "n") "" [] ":50L:n") ∷
    parse "o" (ok Field50L (some "o") "" [] ":50L:o") ∷
    parse "p" (ok Field50L (some "p") "" [] ":50L:p") ∷
    parse "q" (ok Field50L (some "q") "" [] ":50L:q") ∷
    parse "r" (ok Field50L (some "r") "" [] ":50L:r") ∷
    parse "s" (ok Field50L (some "s") "" [] ":50L:s") ∷
    parse "t" (ok Field50L (some "t") "" [] ":50L:t") ∷
    parse "u" (ok Field50L (some "u") "" [] ":50L:u") ∷
    parse "v" (ok Field50L (some "v") "" [] ":50L:v") ∷
    parse "w" (ok Field50L (some "w") "" [] ":50L:w") ∷
    parse "x" (ok Field50L (some "x") "" [] ":50L:x") ∷
    parse "y" (ok Field50L (some "y") "" [] ":50L:y") ∷
    parse "z" (ok Field50L (some "z") "" [] ":50L:z") ∷
    parse "{" (ok Field50L (some "{") "" [] ":50L:{") ∷
    parse "|" (ok Field50L (some "|") "" [] ":50L:|") ∷
    parse "}" (ok Field50L (some "}") "" [] ":50L:}") ∷
    parse "\u{7f}" (no 3 1) ∷
    parse "\0B" (no 3 1) ∷
    parse " B" (ok Field50L (some " B") "" [] ":50L: B") ∷
    parse "/B" (ok Field50L (some "/B") "" [] ":50L:/B") ∷
    parse "@B" (ok Field50L (some "@B") "" [] ":50L:@B") ∷
    parse "[B" (ok Field50L (some "[B") "" [] ":50L:[B") ∷
    parse "zB" (ok Field50L (some "zB") "" [] ":50L:zB") ∷
    parse "~B" (no 3 1) ∷
    parse "A\t" (no 3 1) ∷
    parse "A!" (ok Field50L (some "A!") "" [] ":50L:A!") ∷
    parse "A0" (ok Field50L (some "A0") "" [] ":50L:A0") ∷
    parse "AZ" (ok Field50L (some "AZ") "" [] ":50L:AZ") ∷
    parse "Aa" (ok Field50L (some "Aa") "" [] ":50L:Aa") ∷
    parse "A{" (ok Field50L (some "A{") "" [] ":50L:A{") ∷
    parse "AZ)+B]y" (ok Field50L (some "AZ)+B]y") "" [] ":50L:AZ)+B]y") ∷
    parse "A:" (ok Field50L (some "A:") "" [] ":50L:A:") ∷
    parse "\r\0A\0" (no 3 1) ∷
    parse "\08,." (no 3 1) ∷
    parse "ABCDEFGHIJKLMNOPQRSTUVWXYZ01234567\n7/};\r\nABCDEFGHIJKL\n3/[;'%-" (no 1 0) ∷
    parse "/8*) Y/x=z$+\n///=,8<!\r\nUBSWCHZ0" (no 1 0) ∷
    parse "ABCDEFGHIJ\n/\r2/\n//1\r\n" (no 1 0) ∷
    parse "A^" (no 3 1) ∷
    []

-- The theorem: the transcription gives every listed answer, by computation. Assumes nothing.
use mathlib.Core.Path.{◌≡◌, refl}
use Rattle.party.specs.declared.PartyOption.{PartyOption}
use Rattle.party.proofs.Options.{by_option}
use Rattle.swift_mt_message.specs.Std as std
use Rattle.swift_mt_message.specs.SwiftUtils as swift
use Rattle.swift_mt_message.specs.FieldUtils as fields
use Rattle.swift_mt_message.specs.Field50 as rust50
use Rattle.swift_mt_message.specs.Field59 as rust59
use Rattle.swift_mt_message.specs.Cases.{Reader, option, InstructingParty, FGH, AFK, NCF, Creditor, Field59, Debtor}
use Rattle.swift_mt_message.specs.Listed.{readers, count, Listed}

-- the whole transcription computes where this is unfolded
computes : Unit {0}
unfolding std.if_ok std.arm std.for_from std.in_front std.split_inclusive std.strip_suffix std.line_of std.let_lines std.find std.is_alphabetic std.is_digit std.is_alphanumeric std.is_whitespace std.trim_start std.trim_end std.digits swift.swift_special swift.rust_parse_swift_chars swift.rust_parse_bic fields.parse_code fields.rust_parse_remaining fields.rust_parse_party_identifier fields.name_line fields.rust_parse_name_and_address rust50.Field50NoOption·line rust50.Field50NoOption·parse rust50.Field50NoOption·to_swift_string rust50.Field50A·bic rust50.Field50A·parse rust50.Field50A·to_swift_string rust50.Field50F·line rust50.Field50F·parse rust50.Field50F·numbered rust50.Field50F·to_swift_string rust50.Field50K·line rust50.Field50K·names rust50.Field50K·parse rust50.Field50K·to_swift_string rust50.Field50C·parse rust50.Field50C·to_swift_string rust50.Field50L·parse rust50.Field50L·to_swift_string rust50.Field50G·parse rust50.Field50G·to_swift_string rust50.Field50H·line rust50.Field50H·parse rust50.Field50H·to_swift_string rust50.numbered rust50.rust_last_is_bic rust50.is_variant rust50.Field50InstructingParty·parse rust50.Field50InstructingParty·parse_with_variant rust50.Field50InstructingParty·to_swift_string rust50.Field50OrderingCustomerFGH·parse rust50.Field50OrderingCustomerFGH·parse_with_variant rust50.Field50OrderingCustomerFGH·to_swift_string rust50.Field50OrderingCustomerAFK·parse rust50.Field50OrderingCustomerAFK·parse_with_variant rust50.Field50OrderingCustomerAFK·to_swift_string rust50.Field50OrderingCustomerNCF·parse rust50.Field50OrderingCustomerNCF·parse_with_variant rust50.Field50OrderingCustomerNCF·to_swift_string rust50.Field50Creditor·parse rust50.Field50Creditor·parse_with_variant rust50.Field50Creditor·to_swift_string rust59.Field59F·line rust59.Field59F·names rust59.Field59F·parse rust59.written rust59.Field59F·to_swift_string rust59.Field59A·bic rust59.Field59A·parse rust59.Field59A·to_swift_string rust59.Field59NoOption·names rust59.Field59NoOption·parse rust59.Field59NoOption·to_swift_string rust59.Field59·numbered_at rust59.Field59·numbered rust59.Field59·parse rust59.Field59·parse_with_variant rust59.Field59·to_swift_string rust59.Field59Debtor·parse rust59.Field59Debtor·parse_with_variant rust59.Field59Debtor·to_swift_string
computes = tt

-- the list is read whole
pub counted : count readers ≡ 5836
counted = refl

options : (o : PartyOption) → Listed (option o)
unfolding computes
options = by_option (λ o. Listed (option o)) refl refl refl refl refl refl refl refl refl refl refl

choices : Listed InstructingParty × Listed FGH × Listed AFK × Listed NCF × Listed Creditor × Listed Field59 × Listed Debtor
unfolding computes
choices = (refl, refl, refl, refl, refl, refl, refl)

pub listed : (r : Reader) → Listed r
listed (option o) = options o
listed InstructingParty = choices.0
listed FGH = choices.1
listed AFK = choices.2
listed NCF = choices.3
listed Creditor = choices.4
listed Field59 = choices.5
listed Debtor = choices.6

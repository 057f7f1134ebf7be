-- `reader::nameless_parts` meets its contract: empty parts are empty texts. Assumes nothing.
use mathlib.Core.Path.{◌∙◌, ap}
use mathlib.Core.List.{[]}
use Rattle.party.specs.Text.{text_of, part_in, four, four_texts}
use Rattle.party.specs.Party.{party_in}
use Rattle.reader.specs.Reading.{party_of}
use Rattle.reader.proofs.Readings.{head_present, head_text}
use Rattle.reader.proofs.nameless_parts.Goals as goal

pub returns : goal.returns
unfolding four party_in party_of
returns c = λ body. λ i. record {
  option = c.args.option;
  present = (c.is_some.ensures ∙ head_present body c.args.account) i;
  account = text_of ((ap (part_in body) c.unwrap_or.ensures ∙ head_text body c.args.account) i);
  bic = text_of (part_in body c.args.bic);
  count = 0;
  name_and_address = four_texts [];
  digits = four 0 [];
}

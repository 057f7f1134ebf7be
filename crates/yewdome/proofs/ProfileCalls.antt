-- The profile's promise through the C interface: what a call stored, adding accepts. Assumes nothing.
use mathlib.Core.Path.{◌≡◌, refl, sym, ◌∙◌, ap, subst}
use mathlib.Core.Bool.{Bool, true, false, ◌&&◌, false≢true}
use mathlib.Core.List.{List}
use Prim.Native.Nat.{ℕ}
use lib.Dec.{leb}
use lib.ListN.{length, get_or}
use Rattle.errors.specs.Refusals.{accepted}
use Rattle.party.specs.declared.Party.{Party}
use Rattle.party.specs.Limits.{option_at}
use Rattle.party.specs.Party.{blank, content}
use Rattle.field_utils.specs.Names.{parse_lines, parse_name_and_address}
use Rattle.field_utils.proofs.Tests.{both_left, both_right}
use Rattle.reader.specs.Reading.{Reading}
use Rattle.reader.specs.Options.{read}
use Rattle.reader.specs.Choices.{parse, parse_with_variant}
use Rattle.profile.specs.Profile.{profiled}
use Rattle.writer.specs.Writing.{name_lines}
use Rattle.writer.specs.Given.{are_names, is_given}
use Rattle.record_bytes.specs.RecordBytes.{record_size, holds_record, decoded}
use Rattle.yewdome.specs.Interface.{Called, argument_reply, given, choice_at, filed_code}
use Rattle.yewdome.specs.Code.{Named}
use Rattle.yewdome.specs.Profile.{CallPromise, ExportedProfile}
use Rattle.yewdome.proofs.Answers.{profile_read_line, profile_parse_line, profile_variant_line}
use Rattle.yewdome.proofs.Pages.{adds}
use Rattle.reader.proofs.Loading.{Loads, read_loads}
use Rattle.yewdome.proofs.Theorems.{parse_loads, variant_loads, accepts, loads}
use Rattle.yewdome.proofs.Profile.{Taken, read_taken, parse_taken, variant_taken, under_accepted, under_same, page_accepts}

-- a lent record that a reader can give passes the tests of a lent one, since the blank record is none
blank_not : is_given (content blank) ≡ false
unfolding content is_given are_names name_lines parse_name_and_address parse_lines
blank_not = refl

given_passes : (record_bytes : List ℕ) → is_given (content (decoded record_bytes)) ≡ true → argument_reply record_bytes ≡ accepted
unfolding decoded holds_record
given_passes record_bytes e = go (holds_record record_bytes) refl
  where
    go : (t : Bool) → holds_record record_bytes ≡ t → argument_reply record_bytes ≡ accepted
    go true f =
        let two = both_left (leb record_size (length record_bytes) && leb (get_or record_bytes 0 0) 10) (leb (get_or record_bytes 1 0) 1) f in
        rw (both_left (leb record_size (length record_bytes)) (leb (get_or record_bytes 0 0) 10) two, both_right (leb record_size (length record_bytes)) (leb (get_or record_bytes 0 0) 10) two)
    go false f = absurd (false≢true (sym blank_not ∙ (rw (f, decoded) at e)))

-- a call by its reading under the profile
module _ (known : Bool) (r : Reading) (body bytes : List ℕ) (n : Named (profiled r body).reply) (l : Loads r.party) (t : Taken body r) where
  abbrev call : Called
  call = given known (profiled r body) bytes

  module _ (e : call.code ≡ 0) where
    took : (profiled r body).reply ≡ accepted
    took = accepts known (profiled r body) bytes n e

    loaded : decoded call.bytes ≡ r.party
    loaded = let q = under_same r body took in loads known (profiled r body) bytes n e (subst (λ (x : Reading). Loads x.party) q l) ∙ ap (λ (x : Reading). x.party) (sym q)

  exported : CallPromise r call
  exported = record {
    loads = loaded;
    adds = λ e buffer at b w space free.
        let h = under_accepted r body (took e) in
        let k = t h.0 h.1 in
        let g : argument_reply call.bytes ≡ accepted = given_passes call.bytes (ap (λ (p : Party). is_given (content p)) (loaded e) ∙ k.given) in
        ap (λ (c : Called). c.code) (sym (adds call.bytes buffer at b g (sym (loaded e)))) ∙ ap filed_code ((page_accepts r.party k).adds buffer at b w space free);
  }

pub exported_profile : (body bytes : List ℕ) → ExportedProfile body bytes
exported_profile body bytes = record {
  by_option = λ o. exported (leb o 10) (read (option_at o) body) body bytes (profile_read_line body (option_at o)) (read_loads (option_at o) body) (read_taken body (option_at o));
  detected = λ c. exported (leb c 6) (parse (choice_at c) body) body bytes (profile_parse_line body (choice_at c)) (parse_loads (choice_at c) body) (parse_taken body (choice_at c));
  by_letter = λ c letter.
      exported (leb c 6) (parse_with_variant (choice_at c) body letter) body bytes (profile_variant_line body (choice_at c) letter) (variant_loads (choice_at c) body letter)
      (variant_taken body (choice_at c) letter);
}

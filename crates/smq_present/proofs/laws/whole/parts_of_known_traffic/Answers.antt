use Rattle.std.proofs.Common.{◌≡◌, List, [], ◌∷◌, Some, refl}
use Rattle.std.specs.FinMap.{values}
use Rattle.smq_kit.specs.declared.message_id.Form.TheVariants.{Verbatim}
use Rattle.smq_pdu.specs.Pairing.{nth_index}
use Rattle.smq_tally.specs.declared.fact.Fact.{Fact}
use Rattle.smq_present.specs.present.Content as c
use Rattle.smq_present.specs.declared.present.kept.StoredPdu.{StoredPdu}
use Rattle.smq_present.specs.known.Dealt.{of_first_key, of_messages, two_keys}
use Rattle.smq_present.specs.known.Join.{settings_with}
use Rattle.smq_present.specs.known.Pairing.{accepted, delivered, pdu, submit}
use Rattle.smq_present.specs.join.Facts.{facts_of}
use Rattle.smq_present.specs.whole.Dealt.{dealt, other_places}
use Rattle.smq_present.proofs.lemmas.join.KnownFacts.{listed}
use Rattle.smq_present.proofs.lemmas.whole.KnownParts.{counted-of, facts-of-part, facts-of-whole}
use Rattle.smq_present.proofs.laws.whole.parts_of_known_traffic.Goals as goal

abbrev response : StoredPdu
response = pdu 17 0x8000_0004 0 2 (c.SubmitAnswer (Some (50 ∷ [])))

abbrev client : List StoredPdu
client = submit 0 1 1 ∷ submit 49 2 1 ∷ []

abbrev centre : List StoredPdu
centre = accepted 1 ∷ response ∷ delivered 34 5000 ∷ []

abbrev facts_in : List StoredPdu → List StoredPdu → List Fact
facts_in part_client part_centre = listed 0 Verbatim Verbatim part_client part_centre

whole : values (facts_of (settings_with Verbatim Verbatim) two_keys) ≡ facts_in client centre
whole = facts-of-whole client centre tt tt

first : values (facts_of (settings_with Verbatim Verbatim) (dealt of_first_key two_keys))
    ≡ facts_in (submit 0 1 1 ∷ []) (accepted 1 ∷ delivered 34 5000 ∷ [])
first = facts-of-part of_first_key client centre (submit 0 1 1 ∷ []) (accepted 1 ∷ delivered 34 5000 ∷ []) refl refl tt tt

second : values (facts_of (settings_with Verbatim Verbatim) (dealt (other_places of_first_key) two_keys))
    ≡ facts_in (submit 49 2 1 ∷ []) (response ∷ [])
second = facts-of-part (other_places of_first_key) client centre (submit 49 2 1 ∷ []) (response ∷ []) refl refl tt tt

messages : values (facts_of (settings_with Verbatim Verbatim) (dealt of_messages two_keys)) ≡ facts_in client (accepted 1 ∷ response ∷ [])
messages = facts-of-part of_messages client centre client (accepted 1 ∷ response ∷ []) refl refl tt tt

receipt : values (facts_of (settings_with Verbatim Verbatim) (dealt (other_places of_messages) two_keys)) ≡ facts_in [] (delivered 34 5000 ∷ [])
receipt = facts-of-part (other_places of_messages) client centre [] (delivered 34 5000 ∷ []) refl refl tt tt

pub returns : goal.returns
unfolding nth_index
returns c = record {
  is_delivered = counted-of two_keys _ _ whole;
  is_open = counted-of two_keys _ _ whole;
  first_delivered = counted-of (dealt of_first_key two_keys) _ _ first;
  first_open = counted-of (dealt of_first_key two_keys) _ _ first;
  second_delivered = counted-of (dealt (other_places of_first_key) two_keys) _ _ second;
  second_open = counted-of (dealt (other_places of_first_key) two_keys) _ _ second;
  parted_delivered = counted-of (dealt of_messages two_keys) _ _ messages;
  parted_open = counted-of (dealt of_messages two_keys) _ _ messages;
  receipt_delivered = counted-of (dealt (other_places of_messages) two_keys) _ _ receipt;
  receipt_open = counted-of (dealt (other_places of_messages) two_keys) _ _ receipt;
}

-- The headline of a legal history that has each bank's commands.
use Rattle.std.proofs.Common.{◌≡◌, ℕ, List, map, Option, Result, Ok, Err, inl, inr}
use Rattle.fx_rules.specs.declared.command.Sent.{Sent}
use Rattle.fx_rules.specs.declared.outcome.Entry.{Entry}
use Rattle.fx_rules.specs.Session.{Header}
use Rattle.fx_rules.specs.History.{IsLegal}
use Rattle.fx_rules.specs.Sending.{sent_by}
use Rattle.fx_chronicle.specs.Streams.{HasStreams}
use Rattle.session_script.specs.declared.ends.Stop.{Stop}
use Rattle.session_script.specs.declared.ends.TextEnd.{TextEnd}
use Rattle.fx_chronicle.proofs.Orderly.{legal-orderly}
use Rattle.fx_chronicle.proofs.Streams.{streams-in_order}
use Rattle.program_calls.specs.Headline.{IsHeadline, IsSerial}
use Rattle.program_calls.specs.Run.{GotPartOf, RanText, Followed, Ran}
use Rattle.program_calls.specs.TopCall.{GotWhole, IsOutputOf}
use Rattle.program_calls.specs.declared.status.Status.{Status}

pub headline_of : (h : Header) (sent : List Sent) (entries : List Entry) → IsLegal h entries → HasStreams sent entries → IsHeadline h sent entries
headline_of h sent entries legal streams = record {
  one_legal_history = legal;
  each_bank_in_order = streams;
  orderly = legal-orderly h entries legal;
}

pub serial_of : (h : Header) (sent : List Sent) (entries : List Entry) → IsLegal h entries → map sent_by entries ≡ sent → IsSerial h sent entries
serial_of h sent entries legal in_order = record {
  headline = headline_of h sent entries legal (streams-in_order sent entries in_order);
  in_order = in_order;
}

-- the text of a history in the order of the lines is one of the headline
pub output_of_serial : (end : TextEnd) (input : List ℕ) (left : Option (List ℕ)) (text : List ℕ) → IsOutputOf IsSerial end input left text → IsOutputOf IsHeadline end input left text
output_of_serial end input left text is = record {
  at_its_end = is.at_its_end;
  session = is.session;
  of_its_header = is.of_its_header;
  history = is.history;
  of_its_commands = is.of_its_commands.headline;
  exactly = is.exactly;
  as_listed = is.as_listed;
}

module _ {S K : Type 0} (left : S → Option (List ℕ)) (failed : S → ℕ) (written : K → Option (List ℕ)) (faults : K → ℕ) where
  whole_of_serial : (out out' : K) (end : TextEnd) (input : List ℕ) (rest : Option (List ℕ))
      → GotWhole (IsOutputOf IsSerial) written faults out out' end input rest → GotWhole (IsOutputOf IsHeadline) written faults out out' end input rest
  whole_of_serial out out' end input rest whole = (whole.0, output_of_serial end input rest whole.0 whole.1, whole.2)

  part_of_serial : (out out' : K) (end : TextEnd) (input : List ℕ) (rest : Option (List ℕ))
      → GotPartOf (IsOutputOf IsSerial) written faults out out' end input rest → GotPartOf (IsOutputOf IsHeadline) written faults out out' end input rest
  part_of_serial out out' end input rest part = (part.0, output_of_serial end input rest part.0 part.1, part.2)

  text_of_serial : (out out' : K) (end : TextEnd) (input : List ℕ) (rest : Option (List ℕ)) (status : Status)
      → RanText (IsOutputOf IsSerial) written faults out out' end input rest status → RanText (IsOutputOf IsHeadline) written faults out out' end input rest status
  text_of_serial out out' end input rest status (inl (is, whole)) = inl (is, whole_of_serial out out' end input rest whole)
  text_of_serial out out' end input rest status (inr (inl (is, part, rose))) = inr (inl (is, part_of_serial out out' end input rest part, rose))
  text_of_serial out out' end input rest status (inr (inr (is, inl same))) = inr (inr (is, inl same))
  text_of_serial out out' end input rest status (inr (inr (is, inr part))) = inr (inr (is, inr (part_of_serial out out' end input rest part)))

  followed_of_serial : (out out' : K) (input : List ℕ) (rest : Option (List ℕ)) (read : Result TextEnd Stop) (status : Status)
      → Followed (IsOutputOf IsSerial) written faults out out' input rest read status → Followed (IsOutputOf IsHeadline) written faults out out' input rest read status
  followed_of_serial out out' input rest (Ok end) status followed = text_of_serial out out' end input rest status followed
  followed_of_serial out out' input rest (Err stop) status followed = followed

  -- and a run in that order is one of the headline
  pub ran_of_serial : (a b : S) (out out' : K) (status : Status) → Ran (IsOutputOf IsSerial) left failed written faults a b out out' status → Ran (IsOutputOf IsHeadline) left failed written faults a b out out' status
  ran_of_serial a b out out' status ran = record {
    input = ran.input;
    took = ran.took;
    within = ran.within;
    prompt = ran.prompt;
    read = ran.read;
    came = ran.came;
    cause = ran.cause;
    followed = followed_of_serial out out' ran.input (left b) ran.read status ran.followed;
  }

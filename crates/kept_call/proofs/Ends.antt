-- How a text ended, behind what is read in front of it, where the source has `rest` left.
use Rattle.std.proofs.Common.{◌≡◌, ℕ, ◌≤◌, ◌<◌, List, [], ◌++◌, length, take, Option, Some, None, refl, ap, ◌∙◌, subst, arith, ◌⊎◌, inl, inr, append_assoc, append-nil, length-append}
use Rattle.std.specs.Io.KnownBytes.{prepend_known}
use Rattle.std.proofs.lemmas.List.{take_all, take-append-le}
use Rattle.session_head.specs.declared.reason.HeadReason.{HeadReason}
use Rattle.session_script.specs.Input.{input_limit}
use Rattle.session_script.specs.Reading.{HasNoFault, TextEndedBehind, EndedEarlyBehind}
use Rattle.session_script.specs.Script.{HasFault, HasEnd, EndsWithEnd}
use Rattle.session_script.specs.declared.ends.EarlyEnd.{EarlyEnd}
use Rattle.session_script.specs.declared.ends.EarlyEnd.TheVariants.{Cut, ReadFault, TooMuch}
use Rattle.session_script.specs.declared.ends.TextEnd.TheVariants.{EndLine}
use Rattle.session_script.proofs.ScriptLaws.{HasSession-no_fault, HasFault-more}
use Rattle.kept_call.specs.Text.{IsSessionTextBehind}

pub some_list : (a b : List ℕ) → Some a ≡ Some b → a ≡ b
some_list a b e = cc

-- a source that told its bytes tells those that are left
pub told_bytes : (input : List ℕ) (bytes : List ℕ) (now : Option (List ℕ)) → Some input ≡ prepend_known bytes now → (rest : List ℕ) × (now ≡ Some rest) × (input ≡ bytes ++ rest)
told_bytes input bytes None moved = absurd (cc)
told_bytes input bytes (Some rest) moved = (rest, refl, some_list input (bytes ++ rest) moved)

-- a fault of the header stays one with more bytes
pub fault_stays : (front input rest : List ℕ) (line : ℕ) (reason : HeadReason) → HasFault (front ++ input) line reason → HasFault (front ++ (input ++ rest)) line reason
fault_stays front input rest line reason fault = subst (λ (text : List ℕ). HasFault text line reason) (append_assoc front input rest) (HasFault-more (front ++ input) rest line reason fault)

-- an early end's header has no fault
pub early_faultless : (front input : List ℕ) (known : Option (List ℕ)) (end : EarlyEnd) → EndedEarlyBehind front known input end → HasNoFault (front ++ input)
early_faultless front input known Cut ended = ended.1
early_faultless front input known ReadFault ended = ended.1
early_faultless front input known TooMuch ended = ended.1

module _ (front input rest : List ℕ) where
  -- an early end where another has its cause
  pub cut_early : (end : EarlyEnd) → EndedEarlyBehind front (Some rest) input end → EndedEarlyBehind front (Some rest) input Cut → (end ≡ Cut) ⊎ (end ≡ ReadFault)
  cut_early Cut ended cut = inl refl
  cut_early ReadFault ended cut = inr refl
  cut_early TooMuch ended cut = absurd (omega (arith, ended.0, cut.0.short))

  pub much_early : (end : EarlyEnd) → EndedEarlyBehind front (Some rest) input end → EndedEarlyBehind front (Some rest) input TooMuch → end ≡ TooMuch
  much_early Cut ended much = absurd (omega (arith, ended.0.short, much.0))
  much_early ReadFault ended much = absurd (omega (arith, ended.0, much.0))
  much_early TooMuch ended much = refl

  -- an end with the END line is no early one
  pub ended_cut : TextEndedBehind front (Some rest) input EndLine → EndedEarlyBehind front (Some rest) input Cut → ⊥
  ended_cut (inl has) cut = cut.2 has
  ended_cut (inr ends) cut = cut.3 ends.1

  pub ended_much : TextEndedBehind front (Some rest) input EndLine → EndedEarlyBehind front (Some rest) input TooMuch → ⊥
  ended_much (inl has) much = much.2 has
  ended_much (inr ends) much = omega (arith, ends.0.short, much.0)

  -- Whole texts

  at_end : (text : List ℕ) → rest ≡ [] → text ++ rest ≡ text
  at_end text none = ap (λ (xs : List ℕ). text ++ xs) none ∙ append-nil text

  -- a text has its END line in the bytes that are taken, where they are taken to its end or to the limit
  line_taken : HasEnd (front ++ take input_limit (input ++ rest)) → length input ≤ input_limit → ((rest ≡ []) ⊎ (length input ≡ input_limit)) → HasEnd (front ++ input)
  line_taken has within (inl none) =
      subst (λ (text : List ℕ). HasEnd (front ++ text)) (ap (take input_limit) (at_end input none) ∙ take_all input_limit input within) has
  line_taken has within (inr full) =
      subst (λ (text : List ℕ). HasEnd (front ++ text)) (take-append-le input_limit input rest (omega (arith, full)) ∙ take_all input_limit input within) has

  text_short : length (input ++ rest) < input_limit → length input ≡ input_limit → ⊥
  text_short short full = omega (arith, length-append input rest)

  -- the reading of a whole text stops for no other reason
  served_cut : EndedEarlyBehind front (Some rest) input Cut → length input ≤ input_limit → HasEnd (front ++ take input_limit (input ++ rest)) ⊎ ((length (input ++ rest) < input_limit) × EndsWithEnd (front ++ (input ++ rest))) → ⊥
  served_cut cut within (inl has) = cut.2 (line_taken has within (inl cut.0.met))
  served_cut cut within (inr ends) = cut.3 (subst (λ (text : List ℕ). EndsWithEnd (front ++ text)) (at_end input cut.0.met) ends.1)

  served_much : EndedEarlyBehind front (Some rest) input TooMuch → length input ≤ input_limit → HasEnd (front ++ take input_limit (input ++ rest)) ⊎ ((length (input ++ rest) < input_limit) × EndsWithEnd (front ++ (input ++ rest))) → ⊥
  served_much much within (inl has) = much.2 (line_taken has within (inr much.0))
  served_much much within (inr ends) = text_short ends.0 much.0

  -- an early end of it is a read fault
  pub served_early : (end : EarlyEnd) → EndedEarlyBehind front (Some rest) input end → length input ≤ input_limit → IsSessionTextBehind front (input ++ rest) → end ≡ ReadFault
  served_early Cut cut within is = absurd (served_cut cut within is.ended)
  served_early ReadFault fault within is = refl
  served_early TooMuch much within is = absurd (served_much much within is.ended)

  -- and its header has no fault
  pub served_faultless : IsSessionTextBehind front (input ++ rest) → HasNoFault (front ++ input)
  served_faultless is = λ line reason fault. HasSession-no_fault (front ++ (input ++ rest)) is.session line reason is.header (fault_stays front input rest line reason fault)

-- A body that is read line by line.
use Rattle.std.proofs.Common.{◌≡◌, ℕ, Bool, true, false, List, [], ◌∷◌, ◌++◌, length, Option, Some, None, Err, refl, sym, ap, ◌∙◌, append_assoc, append-nil}
use Rattle.std.specs.Prelude.{◌==◌, if◌then◌else◌, is_some, option_map, option_and_then}
use Rattle.fx_text.specs.Lines.{lines_of, rest_of, IsRest, IsFirstLine}
use Rattle.fx_text.specs.declared.line.Line.{Line}
use Rattle.fx_rules.specs.Session.{Header}
use Rattle.fx_rules.specs.declared.command.Command.{Command}
use Rattle.fx_rules.specs.declared.command.Sent.{Sent}
use Rattle.session_head.specs.Head.{Head, Begun, Drafting, Started, Faulted, with_line, answer_to, session_of, IsStarted}
use Rattle.session_head.specs.declared.reason.HeadReason.{HeadReason}
use Rattle.session_head.specs.declared.reason.HeadStop.TheVariants.{Fault}
use Rattle.order_lines.specs.Grammar.{journal_line}
use Rattle.fx_rules.specs.Sending.{sent_of}
use Rattle.kept_history.specs.Blocks.{lines_in, ended_by_start, behind, commands_of, commands_in}

-- The first line

with_first : (whole : Bool) (line : Line) (lines : List Line) → (if whole then Some (line ∷ lines) else None) ≡ option_map (λ (more : List Line). line ∷ more) (if whole then Some lines else None)
with_first true line lines = refl
with_first false line lines = refl

lines-first : (text : List ℕ) (line : Line) (after : List ℕ) → IsFirstLine text line after → lines_in text ≡ option_map (λ (more : List Line). line ∷ more) (lines_in after)
unfolding lines_in
lines-first text line after first =
    ap (λ (rest : List ℕ). if length rest == 0 then Some (lines_of text) else None) first.rest
    ∙ ap (λ (lines : List Line). if length (rest_of after) == 0 then Some lines else None) first.lines
    ∙ with_first (length (rest_of after) == 0) line (lines_of after)

through : {B : Type 0} (f : List Line → Option B) (line : Line) (lines : Option (List Line)) → option_and_then f (option_map (λ (more : List Line). line ∷ more) lines) ≡ option_and_then (λ (more : List Line). f (line ∷ more)) lines
through f line None = refl
through f line (Some lines) = refl

lines-read : {B : Type 0} (f : List Line → Option B) (text : List ℕ) (line : Line) (after : List ℕ) → IsFirstLine text line after
    → option_and_then f (lines_in text) ≡ option_and_then (λ (more : List Line). f (line ∷ more)) (lines_in after)
lines-read f text line after first = ap (option_and_then f) (lines-first text line after first) ∙ through f line (lines_in after)

-- No line ends

lines-rest : (text : List ℕ) → IsRest text → lines_in text ≡ (if length text == 0 then Some [] else None)
unfolding lines_in
lines-rest text rest =
    ap (λ (r : List ℕ). if length r == 0 then Some (lines_of text) else None) rest.whole
    ∙ ap (λ (lines : List Line). if length text == 0 then Some lines else None) rest.lines

none_then : {B : Type 0} (f : List Line → Option B) → ((lines : List Line) → f lines ≡ None) → (lines : Option (List Line)) → option_and_then f lines ≡ None
none_then f none None = refl
none_then f none (Some lines) = none lines

-- The header

-- what a header comes to with the lines of a text
abbrev pub header_from : Head → List ℕ → Option Header
header_from head text = option_and_then (ended_by_start head) (lines_in text)

pub header_more : (head now : Head) (text : List ℕ) (line : Line) (after : List ℕ) → IsFirstLine text line after → is_some (session_of head) ≡ false → now ≡ with_line head line → header_from head text ≡ header_from now after
header_more head now text line after first unstarted is =
    lines-read (ended_by_start head) text line after first
    ∙ ap (λ (started : Bool). option_and_then (λ (more : List Line). if started then None else ended_by_start (with_line head line) more) (lines_in after)) unstarted
    ∙ ap (λ (next : Head). header_from next after) (sym is)

pub header_behind : (head : Head) (text : List ℕ) (line : Line) (after : List ℕ) → IsFirstLine text line after → is_some (session_of head) ≡ true → header_from head text ≡ None
header_behind head text line after first started =
    lines-read (ended_by_start head) text line after first
    ∙ ap (λ (has : Bool). option_and_then (λ (more : List Line). if has then None else ended_by_start (with_line head line) more) (lines_in after)) started
    ∙ none_then _ (λ (more : List Line). refl) (lines_in after)

stays_faulted : (number : ℕ) (reason : HeadReason) (lines : List Line) → ended_by_start (Faulted number reason) lines ≡ None
stays_faulted number reason [] = refl
stays_faulted number reason (line ∷ lines) = stays_faulted number reason lines

pub header_faulted : (head : Head) (text : List ℕ) (number : ℕ) (reason : HeadReason) → Err (Fault number reason) ≡ answer_to head → header_from head text ≡ None
header_faulted (Begun lines) text number reason fault = cc
header_faulted (Drafting lines draft) text number reason fault = cc
header_faulted (Started lines header) text number reason fault = cc
header_faulted (Faulted at why) text number reason fault = none_then (ended_by_start (Faulted at why)) (stays_faulted at why) (lines_in text)

ended : (head : Head) (whole : Bool) → option_and_then (ended_by_start head) (if whole then Some [] else None) ≡ (if whole then session_of head else None)
ended head true = refl
ended head false = refl

pub header_rest : (head : Head) (text : List ℕ) → IsRest text → header_from head text ≡ (if length text == 0 then session_of head else None)
header_rest head text rest = ap (option_and_then (ended_by_start head)) (lines-rest text rest) ∙ ended head (length text == 0)

pub header_ends : (head : Head) (text : List ℕ) (whole : Bool) → IsRest text → whole ≡ (length text == 0) → whole ≡ true → header_from head text ≡ session_of head
header_ends head text whole rest is yes' = header_rest head text rest ∙ ap (λ (b : Bool). if b then session_of head else None) (sym is ∙ yes')

pub header_cut : (head : Head) (text : List ℕ) (whole : Bool) → IsRest text → whole ≡ (length text == 0) → whole ≡ false → header_from head text ≡ None
header_cut head text whole rest is no' = header_rest head text rest ∙ ap (λ (b : Bool). if b then session_of head else None) (sym is ∙ no')

pub not_started : (head : Head) → is_some (session_of head) ≡ false → ¬ (IsStarted head)
not_started (Begun lines) unstarted started = started
not_started (Drafting lines draft) unstarted started = started
not_started (Started lines header) unstarted started = cc
not_started (Faulted number reason) unstarted started = started

-- The commands

pushed : (before : List Sent) (one : Sent) (more : Option (List Sent)) → behind before (behind (one ∷ []) more) ≡ behind (before ++ one ∷ []) more
pushed before one None = refl
pushed before one (Some more) = ap (λ (all : List Sent). Some all) (sym (append_assoc before (one ∷ []) more))

pushed_all : (h : Header) (before : List Sent) (one : Sent) (lines : Option (List Line))
    → behind before (option_and_then (λ (more : List Line). behind (one ∷ []) (commands_of h more)) lines) ≡ behind (before ++ one ∷ []) (option_and_then (commands_of h) lines)
pushed_all h before one None = refl
pushed_all h before one (Some lines) = pushed before one (commands_of h lines)

commands_line : (h : Header) (text : List ℕ) (line : Line) (after : List ℕ) (said : Option (ℕ × Command)) → IsFirstLine text line after → said ≡ journal_line h line
    → commands_in h text ≡ option_and_then (λ (more : List Line). option_and_then (λ (one : ℕ × Command). behind (sent_of one ∷ []) (commands_of h more)) said) (lines_in after)
commands_line h text line after said first is =
    lines-read (commands_of h) text line after first
    ∙ ap (λ (o : Option (ℕ × Command)). option_and_then (λ (more : List Line). option_and_then (λ (one : ℕ × Command). behind (sent_of one ∷ []) (commands_of h more)) o) (lines_in after)) (sym is)

pub commands_more : (h : Header) (before now : List Sent) (text : List ℕ) (line : Line) (after : List ℕ) (said : ℕ × Command) → IsFirstLine text line after → Some said ≡ journal_line h line → now ≡ before ++ sent_of said ∷ []
    → behind before (commands_in h text) ≡ behind now (commands_in h after)
commands_more h before now text line after said first is pushed_is =
    ap (behind before) (commands_line h text line after (Some said) first is)
    ∙ pushed_all h before (sent_of said) (lines_in after)
    ∙ ap (λ (b : List Sent). behind b (commands_in h after)) (sym pushed_is)

pub commands_wrong : (h : Header) (before : List Sent) (text : List ℕ) (line : Line) (after : List ℕ) → IsFirstLine text line after → None ≡ journal_line h line → behind before (commands_in h text) ≡ None
commands_wrong h before text line after first is =
    ap (behind before) (commands_line h text line after None first is ∙ none_then _ (λ (more : List Line). refl) (lines_in after))

all_read : (h : Header) (before : List Sent) (whole : Bool) → behind before (option_and_then (commands_of h) (if whole then Some [] else None)) ≡ (if whole then Some before else None)
all_read h before true = ap (λ (all : List Sent). Some all) (append-nil before)
all_read h before false = refl

pub commands_rest : (h : Header) (before : List Sent) (text : List ℕ) → IsRest text → behind before (commands_in h text) ≡ (if length text == 0 then Some before else None)
commands_rest h before text rest = ap (λ (lines : Option (List Line)). behind before (option_and_then (commands_of h) lines)) (lines-rest text rest) ∙ all_read h before (length text == 0)

-- The command line that the words are read by, as `clap` sees it.
use Rattle.std.specs.Prelude.{true, codes, Some}
use Rattle.clap.specs.Words.{App, Rule, Text, new_app, new_rule, with_rule, with_subcommand}

abbrev pub workers_rule : Rule
workers_rule = record (new_rule (codes "workers")) { long = Some (codes "workers") }

abbrev pub word_rule : Text → Rule
word_rule id = record (new_rule id) { required = true }

abbrev pub run_app : App
run_app = with_rule (new_app (codes "run")) workers_rule

abbrev pub load_app : App
load_app =
    with_rule (with_rule (with_rule (with_rule (with_rule (new_app (codes "load"))
    (word_rule (codes "SEED"))) (word_rule (codes "BANKS"))) (word_rule (codes "PAIRS"))) (word_rule (codes "COMMANDS")))
    workers_rule

abbrev pub payments_app : App
payments_app = with_rule (new_app (codes "payments")) (word_rule (codes "FORM"))

abbrev pub bare : App → App
bare a = record a { top = record a.top { no_binary_name = true; disable_help_flag = true; disable_help_subcommand = true } }

abbrev pub tool : App
tool =
    with_subcommand (with_subcommand (with_subcommand (with_subcommand (with_subcommand (with_subcommand (with_subcommand (bare (new_app (codes "fx_cli")))
    run_app.top) (new_app (codes "serial")).top) (new_app (codes "check")).top) load_app.top) (new_app (codes "clients")).top) payments_app.top) (new_app (codes "watch")).top

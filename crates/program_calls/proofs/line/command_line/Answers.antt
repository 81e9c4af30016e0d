use Rattle.std.proofs.Common.{◌≡◌, ◌∙◌, ap, ap₂, true, codes}
use Rattle.clap.specs.Simple.{app_of_fields}
use Rattle.clap.specs.Words.{App, app_of, new_app, with_subcommand}
use Rattle.program_calls.proofs.line.command_line.Goals as goal

abbrev no_name : App → App
no_name a = record a { top = record a.top { no_binary_name = true } }

abbrev no_help : App → App
no_help a = record a { top = record a.top { disable_help_flag = true } }

abbrev no_help_command : App → App
no_help_command a = record a { top = record a.top { disable_help_subcommand = true } }

pub returns : goal.returns
returns c =
    let unnamed : app_of c.no_binary_name.result ≡ no_name (new_app (codes "fx_cli")) = ap app_of_fields c.no_binary_name.ensures ∙ ap no_name c.new.ensures.app in
    let unhelped : app_of c.disable_help_flag.result ≡ no_help (no_name (new_app (codes "fx_cli"))) = ap app_of_fields c.disable_help_flag.ensures ∙ ap no_help unnamed in
    let bare : app_of c.disable_help_subcommand.result ≡ no_help_command (no_help (no_name (new_app (codes "fx_cli")))) = ap app_of_fields c.disable_help_subcommand.ensures ∙ ap no_help_command unhelped in
    let run = c.in_ok-subcommand.ensures.shape c.in_ok-run_command.ensures.local ∙ ap₂ with_subcommand bare (ap (λ (a : App). a.top) c.in_ok-run_command.ensures.app) in
    let serial = c.in_ok-subcommand-2.ensures.shape c.new-2.ensures.local ∙ ap₂ with_subcommand run (ap (λ (a : App). a.top) c.new-2.ensures.app) in
    let check = c.in_ok-subcommand-3.ensures.shape c.new-3.ensures.local ∙ ap₂ with_subcommand serial (ap (λ (a : App). a.top) c.new-3.ensures.app) in
    let load = c.in_ok-subcommand-4.ensures.shape c.in_ok-load_command.ensures.local ∙ ap₂ with_subcommand check (ap (λ (a : App). a.top) c.in_ok-load_command.ensures.app) in
    let clients = c.in_ok-subcommand-5.ensures.shape c.new-4.ensures.local ∙ ap₂ with_subcommand load (ap (λ (a : App). a.top) c.new-4.ensures.app) in
    let payments = c.in_ok-subcommand-6.ensures.shape c.in_ok-payments_command.ensures.local ∙ ap₂ with_subcommand clients (ap (λ (a : App). a.top) c.in_ok-payments_command.ensures.app) in
    c.in_ok-tool.ensures.shape c.new-5.ensures.local ∙ ap₂ with_subcommand payments (ap (λ (a : App). a.top) c.new-5.ensures.app)

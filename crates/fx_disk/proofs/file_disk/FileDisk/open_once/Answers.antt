use Rattle.std.proofs.Common.{ap, is_ok}
use Rattle.fx_disk.proofs.Files.{on_err_always, unopened_file, unopened_folder, opened_now}
use Rattle.fx_disk.proofs.file_disk.FileDisk.open_once.Goals as goal

pub returns-in_err-open-clause-unopened : goal.returns-in_err-open-clause-unopened
returns-in_err-open-clause-unopened g c =
    rw (← c.self.view_is)
    (on_err_always c.from_residual.result
    (unopened_file g.F.BackingFile.calls (record { file = c.self.inside.file; is_open = c.self.inside.is_open; faults = c.self.inside.faults }) c.if-self.false c.options.result c.options.ensures c.open.new.self (is_ok c.open.result) (ap is_ok c.in_err-open.was) c.open.ensures))

pub returns-in_err-sync_folder-clause-unopened : goal.returns-in_err-sync_folder-clause-unopened
returns-in_err-sync_folder-clause-unopened g c =
    rw (← c.self.view_is)
    (on_err_always c.from_residual-in_err-sync_folder.result
    (unopened_folder g.F.BackingFile.calls (record { file = c.self.inside.file; is_open = c.self.inside.is_open; faults = c.self.inside.faults }) c.if-self.false c.options.result c.options.ensures c.open.new.self (is_ok c.open.result) (ap is_ok c.in_ok-open.was) c.open.ensures
    c.sync_folder.new.self (is_ok c.sync_folder.result) c.sync_folder.ensures (ap is_ok c.in_err-sync_folder.was)))

pub returns-clause-opened : goal.returns-clause-opened
returns-clause-opened g c =
    rw (← c.self.view_is)
    (opened_now g.F.BackingFile.calls (record { file = c.self.inside.file; is_open = c.self.inside.is_open; faults = c.self.inside.faults }) c.if-self.false c.options.result c.options.ensures c.open.new.self (is_ok c.open.result) (ap is_ok c.in_ok-open.was) c.open.ensures
    c.sync_folder.new.self (is_ok c.sync_folder.result) c.sync_folder.ensures (ap is_ok c.in_ok-sync_folder.was))

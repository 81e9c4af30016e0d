-- Each arm writes the text of its status.
use Rattle.program_calls.specs.Status.{err_text}
use Rattle.program_calls.proofs.status.Status.write_line.Goals as goal

pub returns-in-Usage-clause-cut : goal.returns-in-Usage-clause-cut
unfolding err_text
returns-in-Usage-clause-cut g c = rw c.in-Usage.is c.write_all-in-Usage.ensures.cut

pub returns-in-Cut-clause-wrote : goal.returns-in-Cut-clause-wrote
unfolding err_text
returns-in-Cut-clause-wrote g c = rw c.in-Cut.is c.write_all-in-Cut.ensures.wrote

pub returns-in-Cut-clause-cut : goal.returns-in-Cut-clause-cut
unfolding err_text
returns-in-Cut-clause-cut g c = rw c.in-Cut.is c.write_all-in-Cut.ensures.cut

pub returns-in-TooMuch-clause-wrote : goal.returns-in-TooMuch-clause-wrote
unfolding err_text
returns-in-TooMuch-clause-wrote g c = rw c.in-TooMuch.is c.write_all-in-TooMuch.ensures.wrote

pub returns-in-TooMuch-clause-cut : goal.returns-in-TooMuch-clause-cut
unfolding err_text
returns-in-TooMuch-clause-cut g c = rw c.in-TooMuch.is c.write_all-in-TooMuch.ensures.cut

pub returns-in-DiskFault-clause-wrote : goal.returns-in-DiskFault-clause-wrote
unfolding err_text
returns-in-DiskFault-clause-wrote g c = rw c.in-DiskFault.is c.write_all-in-DiskFault.ensures.wrote

pub returns-in-DiskFault-clause-cut : goal.returns-in-DiskFault-clause-cut
unfolding err_text
returns-in-DiskFault-clause-cut g c = rw c.in-DiskFault.is c.write_all-in-DiskFault.ensures.cut

pub returns-in-Kept-clause-wrote : goal.returns-in-Kept-clause-wrote
unfolding err_text
returns-in-Kept-clause-wrote g c = rw c.in-Kept.is c.write_all-in-Kept.ensures.wrote

pub returns-in-Kept-clause-cut : goal.returns-in-Kept-clause-cut
unfolding err_text
returns-in-Kept-clause-cut g c = rw c.in-Kept.is c.write_all-in-Kept.ensures.cut

pub returns-in-Empty-clause-wrote : goal.returns-in-Empty-clause-wrote
unfolding err_text
returns-in-Empty-clause-wrote g c = rw c.in-Empty.is c.write_all-in-Empty.ensures.wrote

pub returns-in-Empty-clause-cut : goal.returns-in-Empty-clause-cut
unfolding err_text
returns-in-Empty-clause-cut g c = rw c.in-Empty.is c.write_all-in-Empty.ensures.cut

pub returns-in-Full-clause-wrote : goal.returns-in-Full-clause-wrote
unfolding err_text
returns-in-Full-clause-wrote g c = rw c.in-Full.is c.write_all-in-Full.ensures.wrote

pub returns-in-Full-clause-cut : goal.returns-in-Full-clause-cut
unfolding err_text
returns-in-Full-clause-cut g c = rw c.in-Full.is c.write_all-in-Full.ensures.cut

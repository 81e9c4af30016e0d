use Rattle.credit_raise.proofs.course.Course.plan.Given as goal

abbrev pub ghosts-counted_plan : goal.ghosts-counted_plan
ghosts-counted_plan a = record { name = a.blank.name; parts = a.blank.parts }

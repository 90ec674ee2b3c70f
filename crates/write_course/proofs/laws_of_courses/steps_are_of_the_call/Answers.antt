use Rattle.write_course.proofs.OfTheCall.{steps_are_of_the_call}
use Rattle.write_course.proofs.laws_of_courses.steps_are_of_the_call.Goals as goal

pub returns : goal.returns
returns c = steps_are_of_the_call

-- Any question and any answer, as the definitions have them.
use Rattle.std.specs.Prelude.{map, option_map}
use Rattle.map_model.specs.Answer as model
use Rattle.map_shapes.specs.Found.{found_of, peak_of}
use Rattle.map_shapes.specs.Rect.{rect_of}
use Rattle.map_questions.specs.declared.any_answer.AnyAnswer.{AnyAnswer}
use Rattle.map_questions.specs.declared.any_answer.AnyAnswer.TheVariants as answers
use Rattle.map_questions.specs.declared.any_question.AnyQuestion.{AnyQuestion}
use Rattle.map_questions.specs.declared.any_question.AnyQuestion.TheVariants as kinds
use Rattle.map_questions.specs.declared.any_question.PointQuestion.{PointQuestion}
use Rattle.map_questions.specs.declared.any_question.PointQuestion.TheVariants as points
use Rattle.map_questions.specs.declared.any_question.SegmentQuestion.{SegmentQuestion}
use Rattle.map_questions.specs.declared.any_question.SegmentQuestion.TheVariants as segments

-- a question about points, as the definitions have it
abbrev pub point_question_of : PointQuestion → model.Question
point_question_of (points.CountIn q) = model.CountIn (rect_of q.0)
point_question_of (points.SumIn q) = model.SumIn (rect_of q.0)
point_question_of (points.ListIn q) = model.ListIn (rect_of q.0)
point_question_of (points.Near q) = model.Near q.x q.y
point_question_of (points.NearK q) = model.Nearest q.k q.x q.y
point_question_of (points.Above q) = model.Above q.x1 q.x2 q.y
point_question_of (points.Top q) = model.Top q.x1 q.x2

-- a question about segments, as the definitions have it
abbrev pub segment_question_of : SegmentQuestion → model.Question
segment_question_of (segments.Stab q) = model.Stab q.x
segment_question_of (segments.StabCount q) = model.StabCount q.x
segment_question_of (segments.CrossIn q) = model.CrossIn q.x q.y1 q.y2
segment_question_of (segments.CrossCount q) = model.CrossCount q.x q.y1 q.y2

-- any question, as the definitions have it
abbrev pub question_of : AnyQuestion → model.Question
question_of (kinds.Points q) = point_question_of q
question_of (kinds.Segments q) = segment_question_of q

-- an answer to any question, as the definitions have it
abbrev pub answer_of : AnyAnswer → model.Answer
answer_of (answers.Counted n) = model.Counted n
answer_of (answers.Summed n) = model.Summed n
answer_of (answers.Listed ids) = model.Listed ids
answer_of (answers.NearestOne found) = model.NearestOne (option_map found_of found)
answer_of (answers.NearestOnes found) = model.NearestOnes (map found_of found)
answer_of (answers.ListedAbove ids) = model.ListedAbove ids
answer_of (answers.Highest peak) = model.Highest (option_map peak_of peak)
answer_of (answers.Stabbed ids) = model.Stabbed ids
answer_of (answers.StabCounted n) = model.StabCounted n
answer_of (answers.Crossed ids) = model.Crossed ids
answer_of (answers.CrossCounted n) = model.CrossCounted n

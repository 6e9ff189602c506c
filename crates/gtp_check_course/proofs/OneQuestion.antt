-- What a step asks is determined.
use Rattle.std.proofs.Common.{◌≡◌, ℕ, ◌%◌, ◌<◌, sym, ◌∙◌, ap, subst, arith, inl, inr}
use Rattle.std.proofs.Common.{Option, None, Some, ◌/◌, slice_get}
use Rattle.std.proofs.lemmas.Bool.{cases_eq}
use Rattle.rand_pcg.specs.Lcg.{Lcg}
use Rattle.go_base.specs.declared.colours.Colour.{Colour}
use Rattle.go_base.specs.declared.vertices.Vertex.{Vertex}
use Rattle.go_board.specs.Game.{GameRecord, IsLegal}
use Rattle.gtp_check_course.specs.declared.actions.Question.{Question}
use Rattle.gtp_check_course.specs.declared.boards.Board.{Board}
use Rattle.gtp_check_course.specs.declared.lessons.Lesson.{Lesson}
use Rattle.gtp_check_course.specs.declared.stretches.Stretch.{Stretch}
use Rattle.gtp_check_course.specs.declared.stretches.Stretch.TheVariants as stretch
use Rattle.gtp_check_course.specs.Asking.{IsStepOf, draws_of}
use Rattle.gtp_check_course.specs.Boards.{IsBoard}
use Rattle.gtp_check_course.specs.Course.{Course}
use Rattle.gtp_check_course.specs.Draws.{generator_of_step}
use Rattle.gtp_check_course.specs.Questions.{IsDrawnMove, IsFirstLegal, IsProbe, IsQuestion, Step, act_asked}
use Rattle.gtp_check_course.specs.Questions.{act_in_full, actor_pass_asked, answer_asked, sealed_asked}
use Rattle.gtp_check_course.specs.Questions.{drawn_colour, elsewhere_asked, last_of, own_asked, pass_asked, plays}
use Rattle.gtp_check_course.specs.Questions.{probes, retaken, waits_asked}

-- of two candidates that are the first that is legal, none is before the other
not_before : (game : GameRecord) (colour : Colour) (candidates : ℕ → Vertex) (one another : Vertex)
    (first : IsFirstLegal game colour candidates one) (second : IsFirstLegal game colour candidates another)
    → ¬ (first.number < second.number)
not_before game colour candidates one another first second below =
    second.before first.number below (subst (IsLegal game colour) first.is first.legal)

one_vertex : (game : GameRecord) (colour : Colour) (candidates : ℕ → Vertex) (one another : Vertex)
    → IsFirstLegal game colour candidates one → IsFirstLegal game colour candidates another → one ≡ another
one_vertex game colour candidates one another first second =
    let no_less : ¬ (first.number < second.number) = not_before game colour candidates one another first second in
    let no_more : ¬ (second.number < first.number) = not_before game colour candidates another one second first in
    let same : first.number ≡ second.number = omega arith in
    first.is ∙ ap candidates same ∙ sym second.is

one_move : (game : GameRecord) (generator : Lcg) (one another : Question)
    → IsDrawnMove game generator one → IsDrawnMove game generator another → one ≡ another
one_move game generator one another (vertex, drawn, is) (other, drawn', is') =
    is ∙ ap (plays (drawn_colour generator)) (one_vertex game _ _ vertex other drawn.first drawn'.first) ∙ sym is'

one_probe : (game : GameRecord) (generator : Lcg) (one another : Question)
    → IsProbe game generator one → IsProbe game generator another → one ≡ another
one_probe game generator one another first second =
    first.asked ∙ ap (probes (drawn_colour generator)) (sym first.drawn ∙ second.drawn) ∙ sym second.asked

one_question : (stretch : Stretch) (step : Step) (board : Board) (game : GameRecord)
    (one another : Question) → IsQuestion stretch step board game one
    → IsQuestion stretch step board game another → one ≡ another
one_question (stretch.Drawn steps) step board game one another is is' =
    one_move game (generator_of_step step.draws) one another is is'
one_question (stretch.Probed steps) step board game one another is is' = elim (cases_eq (step.number % 3) 0) [
  | inl moves ↦ one_move game (generator_of_step step.draws) one another (is.0 moves) (is'.0 moves)
  | inr probes ↦ one_probe game (generator_of_step step.draws) one another (is.1 probes) (is'.1 probes)
]
one_question _ step board game one another is is' = is ∙ sym is'

-- ---- two boards of a part

-- only the moves of a board's scene count
of_scene : (stretch : Stretch) (step : Step) (board other : Board) (game : GameRecord)
    (question : Question) → board.scene.now ≡ other.scene.now → IsQuestion stretch step board game question
    → IsQuestion stretch step (record board { scene = other.scene }) game question
of_scene (stretch.Drawn steps) step board other game question same is = is
of_scene (stretch.Probed steps) step board other game question same is = is
of_scene stretch.Moves step board other game question same is =
    is ∙ ap (λ acts. act_asked board (slice_get acts step.number)) same
of_scene stretch.MovesInFull step board other game question same is =
    is ∙ ap (λ acts. act_in_full board (slice_get acts step.number)) same
of_scene stretch.Own step board other game question same is =
    is ∙ ap (λ acts. own_asked board step.number (slice_get acts (step.number / 2))) same
of_scene stretch.Pass step board other game question same is =
    is ∙ ap (λ acts. pass_asked board (last_of acts)) same
of_scene stretch.ActorPass step board other game question same is =
    is ∙ ap (λ acts. actor_pass_asked board (last_of acts)) same
of_scene stretch.Sealed step board other game question same is =
    is ∙ ap (λ acts. sealed_asked step.number board (last_of acts)) same
of_scene stretch.Answer step board other game question same is =
    is ∙ ap (λ acts. answer_asked board (last_of acts)) same
of_scene stretch.Act step board other game question same is =
    is ∙ ap (λ acts. act_asked board (last_of acts)) same
of_scene stretch.Elsewhere step board other game question same is =
    is ∙ ap (λ acts. elsewhere_asked board (last_of acts)) same
of_scene (stretch.Waits steps) step board other game question same is =
    is ∙ ap (λ acts. waits_asked board step.number (slice_get acts retaken)) same
of_scene _ step board other game question same is = is

-- the same is asked on two boards of one part
of_board : (lesson : Lesson) (part : ℕ) (known : Option ℕ) (stretch : Stretch) (step : Step) (board other : Board)
    (game : GameRecord) (question : Question) → IsBoard lesson part known board → IsBoard lesson part known other
    → IsQuestion stretch step board game question → IsQuestion stretch step other game question
of_board lesson part known stretch step board other game question is is' asked =
    let Asked = λ (now : Board). IsQuestion stretch step now game question in
    let b1 = of_scene stretch step board other game question (is.scene ∙ sym is'.scene) asked in
    let b2 = subst (λ n. Asked (record board { scene = other.scene; size = n })) (is.size ∙ sym is'.size) b1 in
    let b3 = subst (λ n. Asked (record board { scene = other.scene; size = other.size; other_size = n }))
    (is.other_size ∙ sym is'.other_size) b2 in
    let b4 = subst (λ k. Asked (record board {
      scene = other.scene;
      size = other.size;
      other_size = other.other_size;
      is_sought = k;
    })) (is.is_sought ∙ sym is'.is_sought) b3 in
    let b5 = subst (λ k. Asked (record other {
      komi = k;
      inexact_komi = board.inexact_komi;
      other_komi = board.other_komi;
      stones = board.stones;
      gaps = board.gaps;
      way = board.way;
      has_handicap = board.has_handicap;
    })) (is.komi ∙ sym is'.komi) b4 in
    let b5' = subst (λ k. Asked (record other {
      inexact_komi = k;
      other_komi = board.other_komi;
      stones = board.stones;
      gaps = board.gaps;
      way = board.way;
      has_handicap = board.has_handicap;
    })) (is.inexact_komi ∙ sym is'.inexact_komi) b5 in
    let b6 = subst (λ k. Asked (record other {
      other_komi = k;
      stones = board.stones;
      gaps = board.gaps;
      way = board.way;
      has_handicap = board.has_handicap;
    }))
    (is.other_komi ∙ sym is'.other_komi) b5' in
    let b7 = subst (λ n. Asked (record other {
      stones = n;
      gaps = board.gaps;
      way = board.way;
      has_handicap = board.has_handicap;
    })) (is.stones ∙ sym is'.stones) b6 in
    let b8 = subst (λ g. Asked (record other { gaps = g; way = board.way; has_handicap = board.has_handicap }))
    (is.gaps ∙ sym is'.gaps) b7 in
    let b9 = subst (λ w. Asked (record other { way = w; has_handicap = board.has_handicap }))
    (is.way ∙ sym is'.way) b8 in
    subst (λ b. Asked (record other { has_handicap = b })) (is.has_handicap ∙ sym is'.has_handicap) b9

pub one_step : (lesson : Lesson) (course : Course) (game : GameRecord) (stretch : Option Stretch)
    (one another : Question) → IsStepOf lesson course game stretch one → IsStepOf lesson course game stretch another
    → one ≡ another
one_step lesson course game None one another is is' = is ∙ sym is'
one_step lesson course game (Some stretch) one another (board, is_board, is) (other, is_other, is') =
    let step : Step = record { number = course.place.step; draws = draws_of lesson course } in
    one_question stretch step other game one another
    (of_board lesson _ _ stretch step board other game one is_board is_other is) is'

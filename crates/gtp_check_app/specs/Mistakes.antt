-- The mistakes in the words of a command line that the program reports itself. (Own.)
use Rattle.std.specs.Prelude.{ℕ, List, codes}
use Rattle.gtp_check_app.specs.declared.failure.Mistake.{Mistake}
use Rattle.gtp_check_app.specs.declared.failure.Mistake.TheVariants.{NoCommand, NoLesson}

-- what a mistake in the words is called
abbrev pub mistake_text : Mistake → List ℕ
mistake_text NoCommand = codes "no command of an engine"
mistake_text NoLesson = codes "--only, --skip and --quick leave no lesson to ask"

-- The text that an evaluator is for.
use Rattle.text.specs.declared.texts.Text.{Text}
use Rattle.meaning.specs.declared.evaluator.Evaluator.{Evaluator}

abbrev pub text_of : Evaluator → Text
text_of e = e.text

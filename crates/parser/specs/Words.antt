-- What the code's words are.
use Rattle.script.specs.Words as script
use Rattle.parser.specs.declared.word.Word.{Word}
use Rattle.parser.specs.declared.word.Word.TheVariants.{If, Else, While, Say, Cut, Has, Name}

abbrev pub as_word : Word → script.Word
as_word If = script.if_word
as_word Else = script.else_word
as_word While = script.while_word
as_word Say = script.say_word
as_word Cut = script.cut_word
as_word Has = script.has_word
as_word Name = script.plain_word

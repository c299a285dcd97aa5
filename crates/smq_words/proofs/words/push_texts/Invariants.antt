use Rattle.std.proofs.Common.{◌≡◌, ◌++◌, map, take}
use Rattle.std.specs.Prelude.{string_bytes}
use Rattle.smq_words.specs.Words.{texts_of}
use Rattle.smq_words.proofs.words.push_texts.Given as goal

abbrev pub invariant-loop-text : goal.invariant-loop-text
invariant-loop-text l = map string_bytes l.texts.items ≡ map string_bytes l.initial.texts.items ++ texts_of (take l.text-index l.more)

-- A frame and its translation mean the same, however they are read.
use Rattle.frame_grammar.specs.declared.frame.Kind.TheVariants.{Fixt11}
use Rattle.translation.proofs.Kept as kept
use Rattle.report_translate.specs.Laws.{FramesKeepSense, MeanTheSame}
use Rattle.report_translate.specs.Translation.{down}

pub frames_keep : FramesKeepSense
frames_keep = kept.frames_keep down Fixt11 MeanTheSame (λ body fields g. record {
  venue = g.read.message;
  client = g.other;
  told = g.read.read;
  read = g.kept.read;
  means = g.kept.means;
  books = g.kept.books;
})

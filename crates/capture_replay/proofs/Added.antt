-- What was committed behind the entries of a journal.
use Rattle.std.proofs.Common.{◌≡◌, ◌∙◌, ℕ, List, [], ◌++◌, sym, subst, append-nil, None}
use Rattle.order_meaning.specs.declared.names.Names.{Names}
use Rattle.pair_entries.specs.declared.entry.Entry.{Entry}
use Rattle.gateway_life.specs.declared.end.LifeEnd.{LifeEnd}
use Rattle.gateway_life.specs.declared.end.LifeEnd.TheVariants as ends
use Rattle.gateway_life.specs.Life.{IsJournal}
use Rattle.gateway_life.specs.Watched.{WereCommitted}
use Rattle.capture_replay.specs.Replay.{WereAdded}

-- the journal is of both
pub both_added : (names : Names) (before more found : List Entry) (image : List ℕ)
    → IsJournal names found image → found ≡ before ++ more → WereAdded names before more
both_added names before more found image journal is = (
  None,
  image,
  subst (λ (es : List Entry). IsJournal names es image) (is ∙ sym (append-nil (before ++ more)))
      journal,
)

-- nothing was
pub none_added : (names : Names) (before : List Entry) (image : List ℕ)
    → IsJournal names before image → WereAdded names before []
none_added names before image journal =
    both_added names before [] before image journal (sym (append-nil before))

pub committed_added : (names : Names) (end : LifeEnd) (before more found : List Entry)
    (image : List ℕ) → WereCommitted end (before ++ more) found → IsJournal names found image
    → WereAdded names before more
committed_added names ends.DiskFault before more found image (last, is) journal =
    (last, image, subst (λ (es : List Entry). IsJournal names es image) is journal)
committed_added names ends.Done before more found image is journal =
    both_added names before more found image journal is
committed_added names other before more found image is journal =
    both_added names before more found image journal is

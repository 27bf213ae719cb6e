-- What goes up keeps what the way up owes.
use Rattle.std.proofs.Common.{ℕ, List, Option, None, subst, ◌≡◌, Some, refl, true, sym, ap, ◌∙◌}
use Rattle.std.specs.Prelude.{Ok, IsTrue, is_some}
use Rattle.field_groups.specs.Field.{Field}
use Rattle.message_tables.specs.Tables.{Message, ◌>>=◌}
use Rattle.row_values.specs.Kinds.{judge}
use Rattle.sound_laws.proofs.PlainFields.{clear_fields}
use Rattle.rule_rows.specs.ByRules.{or_lack}
use Rattle.translation.specs.Bodies.{Goes}
use Rattle.translation.specs.Going.{IsFair, Keeps}
use Rattle.translation.specs.Header.{type_of}
use Rattle.request_rules.specs.Lack.{lack42}
use Rattle.request_rules.specs.Rules.{up_content, up_message}
use Rattle.request_rules.proofs.GoUp.{read_go_up}
use Rattle.request_translate.specs.Translation.{up}
use Rattle.request_translate.proofs.AgainFields.{asks, split_again}
use Rattle.request_translate.proofs.SenseAgain.{same_sense}
use Rattle.request_translate.proofs.Writable.{type_is}
use Rattle.std.specs.Option.{option_map}
use Rattle.std.specs.Result.{result_ok}
use Rattle.frame_grammar.specs.declared.frame.Kind.TheVariants.{Fix42}
use Rattle.order_meaning.specs.Request.{Request, RequestKind}
use Rattle.dict_fix42.specs.Sense.{sense42, request42}
use Rattle.dict_fix50.specs.Sense.{sense50}
use Rattle.translation.proofs.Kept as frames
use Rattle.request_translate.specs.Laws.{FramesKeepSense}

-- what lacks nothing goes up
not_lacking : (lack : Option ℕ) (m w : Message) → or_lack lack m ≡ Ok w → (lack ≡ None) × (m ≡ w)
not_lacking None m w h = let is : m ≡ w = cc in (refl, is)
not_lacking (Some tag) m w h = absurd cc

-- WHAT GOES UP KEEPS the sense, and is split again.
pub fair : IsFair up
fair fields are m w read gone =
    let is = not_lacking (lack42 m) (up_message m) w gone in
    let goes = read_go_up (type_of fields) fields m are read is.0 in
    let type = type_is (type_of fields) fields m read in
    let P : Message → Type 0 = λ x. Keeps up fields m x in
    subst P is.1 (record {
      kept = record {
        canonical = goes.request;
        means = goes.means;
        same = same_sense (type_of fields) fields m (up_message m) type
            (clear_fields judge None fields are) goes.means refl (up_content m) goes.request read;
      };
      again = split_again fields (up_content m) (up_message m) are type goes.request;
      typed = type;
    })

-- ---- a frame and its translation mean the same, however they are read

some_of : (o : Option Request) (kind : RequestKind)
    → option_map (λ (r : Request). r.kind) o ≡ Some kind → is_some o ≡ true
some_of None kind e = absurd cc
some_of (Some r) kind e = refl

-- what a body means is a request
means_some : (body : List ℕ) (fields : List Field) → Goes up body fields
    → is_some (sense42 (type_of fields) fields) ≡ true
unfolding sense42
means_some body fields g =
    ap (λ (r : _). is_some (result_ok r >>= request42)) g.read.read ∙ ap is_some (sym g.kept.means)
    ∙ some_of _ _ (asks g.other g.kept.canonical.kind g.kept.canonical.canonical.sound.letter)

pub frames_keep : FramesKeepSense
frames_keep = frames.frames_keep up Fix42
    (λ fields read. (sense50 (type_of read) read ≡ sense42 (type_of fields) fields)
    × IsTrue (is_some (sense42 (type_of fields) fields)))
    (λ body fields g. (g.kept.same, means_some body fields g))

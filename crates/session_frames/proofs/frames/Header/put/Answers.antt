-- The fields are written one behind the other.
use Rattle.std.proofs.Common.{List, [], ◌∷◌, ◌++◌, ◌∙◌, ap, Some, None, append_assoc}
use Rattle.std.proofs.Common.{if◌then◌else◌}
use Rattle.std.specs.Fmt.{decimal}
use Rattle.field_groups.specs.Field.{Field, body_of}
use Rattle.typed_fields.specs.Stamp.{stamp_at}
use Rattle.session_logon.specs.Head.{our, peer}
use Rattle.session_logon.specs.Laws.{flag_field, stamp_field}
use Rattle.session_frames.proofs.Bounds.{more_fields}
use Rattle.session_frames.proofs.frames.Header.put.Goals as goal

pub returns-clause-fields : goal.returns-clause-fields
returns-clause-fields c =
    let h = c.args.self.now in
    let ids : List Field =
    (35, c.args.msg_type.now) ∷ (49, our c.args.side c.args.names.now)
    ∷ (56, peer c.args.side c.args.names.now) ∷ (34, decimal h.number) ∷ [] in
    let dup : List Field = flag_field 43 h.again in
    let resend : List Field = flag_field 97 h.resend in
    let sent : List Field = stamp_field 52 (Some (stamp_at h.sent)) in
    let first : List Field =
    stamp_field 122 (if h.again then Some (stamp_at h.first) else None) in
    let a = more_fields _ c.put_ids.new.out [] ids c.requires.empty c.put_ids.ensures.fields in
    let b = more_fields _ c.put_flag.new.out ids dup a c.put_flag.ensures.field in
    let d = more_fields _ c.put_flag-2.new.out (ids ++ dup) resend b c.put_flag-2.ensures.field in
    let e = more_fields _ c.put_moment.new.out (ids ++ dup ++ resend) sent d
    c.put_moment.ensures.field in
    let f = more_fields _ c.put_first.new.out (ids ++ dup ++ resend ++ sent) first e
    c.put_first.ensures.field in
    f ∙ ap body_of (append_assoc (ids ++ dup ++ resend) sent first)

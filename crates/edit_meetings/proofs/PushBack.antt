-- The text of a request that pushes bytes to a share reads as what the bytes read as. A player's reader has no such
-- paths.
use Rattle.std.proofs.Common.{◌≡◌, ◌≤◌, ◌<◌, ◌++◌, [], ◌∷◌, ℕ, List, true, false, length, IsUtf8, Some, None, Result, refl, sym, ◌∙◌, subst, arith, append_assoc, append-nil}
use Rattle.std.specs.Prelude.{codes}
use Rattle.std.specs.List.{list_all}
use Rattle.std.specs.Str.{chars, is_utf8}
use Rattle.std.proofs.lemmas.Str.{IsUtf8-from_is_utf8}
use lib.Utf8.{encode}
use Rattle.httparse.specs.Grammar.{RequestHead, is_token_byte, is_uri_byte}
use Rattle.item_model.specs.declared.changes.Edit.{Edit as OneEdit}
use Rattle.matchit.specs.Route.{scan}
use Rattle.matchit.specs.Seek.{param_step, seek}
use Rattle.records_import.specs.declared.refusal.RecordError.{RecordError}
use Rattle.share_asks.specs.declared.ask.AskError.TheVariants as fault
use Rattle.share_asks.specs.declared.ask.Role.{Role}
use Rattle.share_asks.specs.declared.ask.Role.TheVariants as role
use Rattle.share_asks.specs.declared.ask.Verb.TheVariants.{Post}
use Rattle.share_asks.specs.declared.ask.Want.{Want}
use Rattle.share_asks.specs.declared.ask.Want.TheVariants as want
use Rattle.http_heads.specs.declared.kind.Kind.TheVariants as kind
use Rattle.http_heads.specs.Limits.{body_limit}
use Rattle.http_heads.specs.Heads.{IsHead}
use Rattle.http_heads.specs.Messages.{IsMessage, Message, print_message}
use Rattle.http_front.specs.ReplyHeads.{field}
use Rattle.http_front.specs.Readings.{IsReading, reading}
use Rattle.http_front.specs.Routes.{all_routes, route_at, verb_text}
use Rattle.http_front.specs.Targets.{local_part, path_of, query_of}
use Rattle.http_front.specs.Wants.{BodyReads, Wants}
use Rattle.http_front.proofs.ReadingLaws.{reading_of_joined}
use Rattle.http_client.specs.Requests.{IsHost, message_text, request_line}
use Rattle.http_client.proofs.HeadsBack.{AreParts, few_fields, head_framed, head_is, head_short, head_text, length_text, length_told, printed_head, sent_head, sent_method, sent_target, stays_open}

-- ---- a request with a body, to any path

-- a path that a request line may have
pub record IsPath (path : List ℕ) : Type 0 where
  pub some : 0 < length path
  pub is : list_all is_uri_byte path ≡ true
  pub text : IsUtf8 path
  pub short : length path ≤ 16000

module _ (path host bytes : List ℕ) (is_path : IsPath path) (is_host : IsHost host) (small : length bytes ≤ body_limit) where
  abbrev head : List ℕ
  head = head_text (verb_text Post) path host (Some (length bytes))

  abbrev tree : RequestHead
  tree = sent_head (verb_text Post) path host (Some (length bytes))

  abbrev message : Message
  message = record { head = head; body = bytes }

  parts : AreParts (verb_text Post) path host (Some (length bytes))
  unfolding is_token_byte
  parts = record {
    method_some = omega arith;
    method_is = refl;
    method_shown = refl;
    target_some = is_path.some;
    target_is = is_path.is;
    target_text = is_path.text;
    host_is = is_host.shows;
    len_is = λ n e. let same : length bytes ≡ n = cc in omega (arith, small, same);
  }

  is_head : IsHead head tree
  is_head = (
    (
      head_is (verb_text Post) path host (Some (length bytes)) parts,
      sym (printed_head (verb_text Post) path host (Some (length bytes))) ∙ sym (append-nil _),
    ),
    few_fields (verb_text Post) path host (Some (length bytes)),
  )

  is_message : IsMessage kind.Request message
  is_message = record {
    lines = 4;
    framed = head_framed (verb_text Post) path host (Some (length bytes)) parts;
    short = head_short (verb_text Post) path host (Some (length bytes)) parts (omega arith) is_path.short is_host.short;
    tells = (omega arith, (tree, is_head, length_told (verb_text Post) path host (Some (length bytes)) small));
  }

  behind_head : (a b c d e f : List ℕ) → (a ++ (b ++ (c ++ (d ++ e)))) ++ f ≡ a ++ (b ++ (c ++ (d ++ (e ++ f))))
  behind_head a b c d e f = simp append_assoc

  text_is : message_text Post path host bytes ≡ print_message message
  unfolding message_text
  text_is =
      sym (behind_head (request_line Post path) (field (codes "Host") host) (field (codes "Client-DAAP-Version") (codes "3.0"))
      (length_text (Some (length bytes))) (codes "\r\n") bytes)

  pub post_reads : (r : Role) (w : Want) → Wants r (verb_text Post) (path_of (local_part path)) (query_of (local_part path)) bytes w
      → IsReading r (message_text Post path host bytes) (reading (record { role = r; close = false; want = w } ∷ []) [] None)
  post_reads r w wants =
      let method : Wants r tree.method (path_of (local_part path)) (query_of (local_part path)) bytes w =
      subst (λ (m : List ℕ). Wants r m (path_of (local_part path)) (query_of (local_part path)) bytes w) (sym (sent_method (verb_text Post) path host (Some (length bytes)))) wants in
      let target : Wants r tree.method (path_of (local_part tree.target)) (query_of (local_part tree.target)) bytes w =
      subst (λ (t : List ℕ). Wants r tree.method (path_of (local_part t)) (query_of (local_part t)) bytes w) (sym (sent_target (verb_text Post) path host (Some (length bytes)))) method in
      reading_of_joined r (message_text Post path host bytes) (record { role = r; close = false; want = w } ∷ [])
      (record {
        requests = message ∷ [];
        spell = (
          (
            tree,
            (is_message, is_head),
            record { role_is = refl; close_is = sym (stays_open (verb_text Post) path host (Some (length bytes))); want_is = target },
          ),
          tt,
        );
        joined = text_is ∙ sym (append-nil (print_message message)) ∙ sym (append-nil (print_message message ++ []));
      })

-- ---- the two paths

edit_path : IsPath (codes "/edit")
unfolding is_utf8 chars encode
edit_path = record { some = omega arith; is = refl; text = IsUtf8-from_is_utf8 (codes "/edit") refl; short = omega arith }

stop_path : IsPath (codes "/stop")
unfolding is_utf8 chars encode
stop_path = record { some = omega arith; is = refl; text = IsUtf8-from_is_utf8 (codes "/stop") refl; short = omega arith }

-- what a reader takes a pushed edit for
abbrev pub edit_want : Role → Result (List OneEdit) RecordError → Want
edit_want role.Edit read = want.Edit read
edit_want role.Listen read = want.Bad fault.Path

-- .. and a stop
abbrev pub stop_want : Role → Want
stop_want role.Edit = want.Stop
stop_want role.Listen = want.Bad fault.Path

edit_wants : (r : Role) (bytes : List ℕ) (read : Result (List OneEdit) RecordError) → BodyReads bytes read
    → Wants r (verb_text Post) (path_of (local_part (codes "/edit"))) (query_of (local_part (codes "/edit"))) bytes (edit_want r read)
unfolding is_utf8 chars encode route_at all_routes scan seek param_step
edit_wants role.Edit bytes read h = (read, h, refl)
edit_wants role.Listen bytes read h = refl

stop_wants : (r : Role) (bytes : List ℕ) → Wants r (verb_text Post) (path_of (local_part (codes "/stop"))) (query_of (local_part (codes "/stop"))) bytes (stop_want r)
unfolding is_utf8 chars encode route_at all_routes scan seek param_step
stop_wants role.Edit bytes = refl
stop_wants role.Listen bytes = refl

pub edit_reads : (r : Role) (host bytes : List ℕ) (read : Result (List OneEdit) RecordError) → IsHost host → length bytes ≤ body_limit → BodyReads bytes read
    → IsReading r (message_text Post (codes "/edit") host bytes) (reading (record { role = r; close = false; want = edit_want r read } ∷ []) [] None)
edit_reads r host bytes read is_host small h = post_reads (codes "/edit") host bytes edit_path is_host small r (edit_want r read) (edit_wants r bytes read h)

pub stop_reads : (r : Role) (host : List ℕ) → IsHost host
    → IsReading r (message_text Post (codes "/stop") host []) (reading (record { role = r; close = false; want = stop_want r } ∷ []) [] None)
stop_reads r host is_host = post_reads (codes "/stop") host [] stop_path is_host (omega arith) r (stop_want r) (stop_wants r [])

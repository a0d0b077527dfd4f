-- The text of a request is a message that is this request.
use Rattle.std.proofs.Common.{◌≡◌, ◌≤◌, ◌<◌, ◌^◌, ◌∷◌, ◌++◌, [], ℕ, List, Option, Some, None, Result, Ok, Err, true, refl, sym, ap, ◌∙◌, subst, length, arith, append_assoc, append-nil}
use Rattle.std.specs.Prelude.{codes, IfOk, OnOk}
use Rattle.std.specs.List.{list_all}
use Rattle.httparse.specs.Grammar.{RequestHead, is_token_byte}
use Rattle.http_front.specs.Asks.{Spells}
use Rattle.http_front.specs.ReplyHeads.{field}
use Rattle.http_front.specs.Readings.{IsReading, reading}
use Rattle.http_front.specs.Routes.{verb_text}
use Rattle.http_front.specs.Targets.{local_part, path_of, query_of}
use Rattle.http_front.specs.Wants.{Wants}
use Rattle.http_front.proofs.ReadingLaws.{reading_of_joined}
use Rattle.http_heads.specs.Fields.{body_length, fields_of}
use Rattle.http_heads.specs.Heads.{IsHead}
use Rattle.http_heads.specs.Limits.{body_limit, line_limit}
use Rattle.http_heads.specs.Messages.{IsMessage, Message, print_message}
use Rattle.http_heads.specs.declared.kind.Kind.TheVariants as kind
use Rattle.share_asks.specs.declared.ask.Ask.{Ask}
use Rattle.share_asks.specs.declared.ask.Verb.{Verb}
use Rattle.share_asks.specs.declared.ask.Verb.TheVariants as verb
use Rattle.share_asks.specs.declared.ask.Want.{Want}
use Rattle.share_asks.specs.declared.ask.Want.TheVariants.{ServerInfo, Codes, Login, Logout, Update, Databases, Rows, Lists, Values, Edit, Stop, Bad}
use Rattle.http_client.specs.Laws.{RequestsReadBack}
use Rattle.http_client.specs.Requests.{CanSend, HasNumbers, IsRead, IsSent, IsSmall, length_line, message_text, request_line, request_text, sent_body, verb_for}
use Rattle.http_client.specs.Targets.{IsTextOf, target_of}
use Rattle.http_client.proofs.HeadsBack.{AreParts, few_fields, head_framed, head_is, head_short, head_text, is_shown, length_text, length_told, line_count, printed_head, sent_head, sent_method, sent_target, stays_open, told_len}
use Rattle.http_client.proofs.ParametersBack.{cost_of, texts_of}
use Rattle.http_client.proofs.TargetsBack.{target_short, target_some, target_text, target_uri}
use Rattle.http_client.proofs.WantsBack.{want_back}

-- ---- the head and the body of the text

abbrev len_of : Verb → ℕ → Option ℕ
len_of verb.Get n = None
len_of verb.Post n = Some n

abbrev len_for : Want → Option ℕ
len_for want = len_of (verb_for want) (length (sent_body want))

abbrev head_for : Want → List ℕ → List ℕ
head_for want host = head_text (verb_text (verb_for want)) (target_of want) host (len_for want)

abbrev tree_for : Want → List ℕ → RequestHead
tree_for want host = sent_head (verb_text (verb_for want)) (target_of want) host (len_for want)

abbrev message_for : Want → List ℕ → Message
message_for want host = record { head = head_for want host; body = sent_body want }

length_same : (v : Verb) (n : ℕ) → length_line v n ≡ length_text (len_of v n)
length_same verb.Get n = refl
length_same verb.Post n = refl

behind_head : (a b c d e f : List ℕ) → (a ++ (b ++ (c ++ (d ++ e)))) ++ f ≡ a ++ (b ++ (c ++ (d ++ (e ++ f))))
behind_head a b c d e f = simp append_assoc

text_is : (want : Want) (host : List ℕ) → request_text want host ≡ print_message (message_for want host)
unfolding request_text message_text
text_is want host =
    let a = request_line (verb_for want) (target_of want) in
    let b = field (codes "Host") host in
    let c = field (codes "Client-DAAP-Version") (codes "3.0") in
    ap (λ d. a ++ (b ++ (c ++ (d ++ (codes "\r\n" ++ sent_body want))))) (length_same (verb_for want) (length (sent_body want)))
    ∙ sym (behind_head a b c (length_text (len_for want)) (codes "\r\n") (sent_body want))

-- ---- what the parts are

verb_some : (v : Verb) → 0 < length (verb_text v)
verb_some verb.Get = omega arith
verb_some verb.Post = omega arith

verb_short : (v : Verb) → length (verb_text v) ≤ 4
verb_short verb.Get = omega arith
verb_short verb.Post = omega arith

verb_token : (v : Verb) → list_all is_token_byte (verb_text v) ≡ true
unfolding is_token_byte
verb_token verb.Get = refl
verb_token verb.Post = refl

verb_shown : (v : Verb) → is_shown (verb_text v) ≡ true
verb_shown verb.Get = refl
verb_shown verb.Post = refl

len_small : (v : Verb) (k n : ℕ) → k ≤ body_limit → len_of v k ≡ Some n → n < 2 ^ 64
len_small verb.Get k n h e = absurd (cc e)
len_small verb.Post k n h e = let same : k ≡ n = cc e in omega (arith, h, same)

body_small : (want : Want) → CanSend want → IsSmall want → length (sent_body want) ≤ body_limit
unfolding sent_body
body_small ServerInfo h s = omega arith
body_small Codes h s = omega arith
body_small Login h s = omega arith
body_small (Logout session) h s = omega arith
body_small (Update session revision) h s = omega arith
body_small (Databases session) h s = omega arith
body_small (Rows session target look) h s = omega arith
body_small (Lists session) h s = omega arith
body_small (Values session browse asked) h s = omega arith
body_small (Edit (Ok batch)) h s = s
body_small (Edit (Err e)) h s = absurd h
body_small Stop h s = omega arith
body_small (Bad error) h s = omega arith

len_is : (want : Want) → told_len (len_for want) ≡ length (sent_body want)
unfolding sent_body
len_is ServerInfo = refl
len_is Codes = refl
len_is Login = refl
len_is (Logout session) = refl
len_is (Update session revision) = refl
len_is (Databases session) = refl
len_is (Rows session target look) = refl
len_is (Lists session) = refl
len_is (Values session browse asked) = refl
len_is (Edit (Ok batch)) = refl
len_is (Edit (Err e)) = refl
len_is Stop = refl
len_is (Bad error) = refl

lines_few : (len : Option ℕ) → line_count len ≤ line_limit
lines_few None = omega arith
lines_few (Some n) = omega arith

parts_for : (ask : Ask) (host : List ℕ) → CanSend ask.want → HasNumbers ask.want → IsSent ask host
    → AreParts (verb_text (verb_for ask.want)) (target_of ask.want) host (len_for ask.want)
parts_for ask host may numbers sent = record {
  method_some = verb_some (verb_for ask.want);
  method_is = verb_token (verb_for ask.want);
  method_shown = verb_shown (verb_for ask.want);
  target_some = target_some ask.want may;
  target_is = target_uri ask.want numbers;
  target_text = target_text ask.want numbers;
  host_is = sent.host_is.shows;
  len_is = λ n e. len_small (verb_for ask.want) (length (sent_body ask.want)) n (body_small ask.want may sent.small) e;
}

-- ---- the message and the request that it encodes

is_head : (ask : Ask) (host : List ℕ) → AreParts (verb_text (verb_for ask.want)) (target_of ask.want) host (len_for ask.want) → IsHead (head_for ask.want host) (tree_for ask.want host)
is_head ask host parts =
    let method = verb_text (verb_for ask.want) in
    let target = target_of ask.want in
    let len = len_for ask.want in
    ((head_is method target host len parts, sym (printed_head method target host len) ∙ sym (append-nil _)), few_fields method target host len)

told_body : (ask : Ask) (host : List ℕ) → CanSend ask.want → IsSent ask host → body_length (fields_of (tree_for ask.want host).fields) ≡ Ok (length (sent_body ask.want))
told_body ask host may sent =
    let small : told_len (len_for ask.want) ≤ body_limit = omega (arith, len_is ask.want, body_small ask.want may sent.small) in
    length_told (verb_text (verb_for ask.want)) (target_of ask.want) host (len_for ask.want) small ∙ ap (λ (n : ℕ). Ok n) (len_is ask.want)

is_message : (ask : Ask) (host : List ℕ) → CanSend ask.want → HasNumbers ask.want → IsTextOf ask.want → IsSent ask host → IsMessage kind.Request (message_for ask.want host)
is_message ask host may numbers utf8 sent =
    let method = verb_text (verb_for ask.want) in
    let target = target_of ask.want in
    let len = len_for ask.want in
    let parts = parts_for ask host may numbers sent in
    let short = target_short ask.want numbers (texts_of ask.want numbers utf8) (cost_of ask.want numbers sent.small) in record {
      lines = line_count len;
      framed = head_framed method target host len parts;
      short = head_short method target host len parts (verb_short (verb_for ask.want)) short sent.host_is.short;
      tells = (lines_few len, (tree_for ask.want host, is_head ask host parts, told_body ask host may sent));
    }

sent_want : (ask : Ask) (host : List ℕ) → CanSend ask.want → HasNumbers ask.want → IsTextOf ask.want → IsRead ask.want → IsSent ask host
    → Wants ask.role (tree_for ask.want host).method (path_of (local_part (tree_for ask.want host).target)) (query_of (local_part (tree_for ask.want host).target)) (sent_body ask.want) ask.want
sent_want ask host may numbers utf8 read sent =
    let method = verb_text (verb_for ask.want) in
    let target = target_of ask.want in
    let len = len_for ask.want in
    let wants = want_back ask.role ask.want (texts_of ask.want numbers utf8) may numbers sent.small read sent.taken in
    subst (λ (m : List ℕ). Wants ask.role m (path_of (local_part (tree_for ask.want host).target)) (query_of (local_part (tree_for ask.want host).target)) (sent_body ask.want) ask.want)
    (sym (sent_method method target host len))
    (subst (λ (t : List ℕ). Wants ask.role method (path_of (local_part t)) (query_of (local_part t)) (sent_body ask.want) ask.want) (sym (sent_target method target host len)) wants)

sent_spells : (ask : Ask) (host : List ℕ) → CanSend ask.want → HasNumbers ask.want → IsTextOf ask.want → IsRead ask.want → IsSent ask host → Spells ask.role (message_for ask.want host) ask
sent_spells ask host may numbers utf8 read sent =
    let parts = parts_for ask host may numbers sent in (
      tree_for ask.want host,
      (is_message ask host may numbers utf8 sent, is_head ask host parts),
      record {
        role_is = refl;
        close_is = sent.stays ∙ sym (stays_open (verb_text (verb_for ask.want)) (target_of ask.want) host (len_for ask.want));
        want_is = sent_want ask host may numbers utf8 read sent;
      },
    )

-- the text is read as the request
pub request_read : (ask : Ask) (host text : List ℕ) → text ≡ request_text ask.want host → CanSend ask.want → HasNumbers ask.want → IsTextOf ask.want → IsRead ask.want → IsSent ask host
    → IsReading ask.role text (reading (ask ∷ []) [] None)
request_read ask host text is may numbers utf8 read sent =
    let m = message_for ask.want host in
    reading_of_joined ask.role text (ask ∷ [])
    (record {
      requests = m ∷ [];
      spell = (sent_spells ask host may numbers utf8 read sent, tt);
      joined = is ∙ text_is ask.want host ∙ sym (append-nil (print_message m)) ∙ sym (append-nil (print_message m ++ []));
    })

pub requests_read_back : RequestsReadBack
requests_read_back ask host may numbers utf8 read sent = request_read ask host (request_text ask.want host) refl may numbers utf8 read sent

-- from three facts of a call's result follows a fourth
pub if_all : {T E : Type 0} {P Q : T → Type 0} {A B : Type 0} (r : Result T E) → ((v : T) → P v → A → B → Q v) → IfOk r P → OnOk r A → OnOk r B → IfOk r Q
if_all (Ok v) f p a b = f v p a b
if_all (Err e) f p a b = tt

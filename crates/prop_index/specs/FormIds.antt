-- The ids of each form.
use Rattle.prop_index.specs.declared.texts.TextIds.{TextIds}
use Rattle.prop_index.specs.declared.forms.FormIds.{FormIds}
use Rattle.prop_index.specs.Forms.{Form, spelled, any_case}

abbrev pub texts_of : FormIds → Form → TextIds
texts_of ids spelled = ids.spelled
texts_of ids any_case = ids.any_case

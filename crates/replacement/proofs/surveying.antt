-- The look over a body.
pub mod OverRecords
pub mod SurveyLaws
